-- The count over a lent list: what the tests of the code say, and that it is the number of the player's pending requests.
-- Assumes nothing.
use mathlib.Core.Path.{◌≡◌, refl, sym, ap, ◌∙◌}
use mathlib.Core.Logic.{⊎_elim}
use mathlib.Core.Bool.{Bool, true, false, cond, ◌&&◌}
use mathlib.Core.List.{List, [], ◌∷◌, ◌++◌, map}
use Rattle.std.specs.List.{count_by}
use Rattle.std.proofs.lemmas.List.Recursion.{is_count_by}
use native.Mathlib.Nat.{zero-add}
use Prim.Native.Nat.{ℕ, zero, suc, ◌+◌, ◌≤◌, ◌<◌}
use native.Mathlib.Omega.{arith}
use lib.Dec.{eqb}
use lib.ListN.{length, get_or, drop, length-map}
use borrow.Author.Tests.{eqb-false, eq-eqb, ne_eqb, lt-ltb, le-ltb}
use Rattle.store.specs.Calls.{reply}
use Rattle.requests.specs.declared.Request.{Request}
use Rattle.requests.specs.declared.LentRequest.{LentRequest}
use Rattle.requests.specs.Model.{places, by, pending, keep}
use Rattle.requests.specs.Region.{bit, whole, request_of, requests_from, requests_of}
use Rattle.requests.specs.Lent.{marked, request, place_of, counts, one_more, counted, answer, waiting}
use Rattle.requests.proofs.Basics.{decide, cond_elim}
use Rattle.requests.proofs.Placed.{serial_of, requests_few}

-- ---- one place

module _ (r : LentRequest) (p : ℕ) where
  pub counts_unused : r.serial ≡ 0 → false ≡ counts p r
  unfolding counts
  counts_unused h = rw (eq-eqb r.serial 0 h)

  module _ (n : ℕ) where
    pub passed_over : counts p r ≡ false → n ≡ one_more p n r
    unfolding one_more
    passed_over h = rw h

    pub one_added : counts p r ≡ true → n < 4294967295 → n + 1 ≡ one_more p n r
    unfolding one_more
    one_added h k = rw (h, lt-ltb n 4294967295 k)

-- ---- the reply

module _ (m p n : ℕ) where
  pub wrong_places : (m ≡ 64 → ⊥) → reply 21 0 0 ≡ answer m p n
  unfolding answer
  wrong_places h = rw (ne_eqb m 64 h)

  pub no_player : m ≡ 64 → 7 < p → reply 28 0 0 ≡ answer m p n
  unfolding answer
  no_player h k = rw (eq-eqb m 64 h, lt-ltb 7 p k)

  pub count_given : m ≡ 64 → p ≤ 7 → reply 0 n 0 ≡ answer m p n
  unfolding answer
  count_given h k = rw (eq-eqb m 64 h, le-ltb 7 p k)

-- ---- what is counted

-- how many places count
many : ℕ → List LentRequest → ℕ
many p [] = 0
many p (r ∷ rs) = cond (counts p r) (1 + many p rs) (many p rs)

counted_many : (p n : ℕ) (rs : List LentRequest) → n + length rs ≤ 4294967295 → counted p n rs ≡ n + many p rs
unfolding counted many
counted_many p n [] h = omega arith
counted_many p n (r ∷ rs) h =
    ⊎_elim
    (λ t.
    let e : many p (r ∷ rs) ≡ 1 + many p rs = rw t in
    ap (λ (m : ℕ). counted p m rs) (sym (one_added r p n t (omega arith))) ∙ counted_many p (n + 1) rs (omega arith) ∙ omega (arith, e))
    (λ t.
    let e : many p (r ∷ rs) ≡ many p rs = rw t in
    ap (λ (m : ℕ). counted p m rs) (sym (passed_over r p n t)) ∙ counted_many p n rs (omega arith) ∙ omega (arith, e))
    (decide (counts p r))

-- the reply for a list of 64 places, by the number of those that count
pub waiting_count : (p : ℕ) (rs : List LentRequest) → length rs ≡ 64 → p ≤ 7 → reply 0 (count_by (counts p) rs) 0 ≡ waiting p rs
unfolding waiting many
waiting_count p rs l h =
    let e : counted p 0 rs ≡ count_by (counts p) rs = counted_many p 0 rs (omega arith) ∙ zero-add (many p rs) ∙ is_count_by (many p) (counts p) refl (λ x xs. refl) rs in
    ap (λ (n : ℕ). reply 0 n 0) (sym e) ∙ count_given (length rs) p (counted p 0 rs) l h

pub waiting_places : (p : ℕ) (rs : List LentRequest) → (length rs ≡ 64 → ⊥) → reply 21 0 0 ≡ waiting p rs
unfolding waiting
waiting_places p rs h = wrong_places (length rs) p (counted p 0 rs) h

pub waiting_player : (p : ℕ) (rs : List LentRequest) → length rs ≡ 64 → 8 ≤ p → reply 28 0 0 ≡ waiting p rs
unfolding waiting
waiting_player p rs h k = no_player (length rs) p (counted p 0 rs) h (omega arith)

-- each of these places is used
pub data Used : List LentRequest → Type 0 where
  none_left : Used []
  one_used : {r : LentRequest} {rs : List LentRequest} → (r.serial ≡ 0 → ⊥) → Used rs → Used (r ∷ rs)

-- and none of these places is
pub data Unused : List LentRequest → Type 0 where
  none_left : Unused []
  one_unused : {r : LentRequest} {rs : List LentRequest} → r.serial ≡ 0 → Unused rs → Unused (r ∷ rs)

counted_unused : (p n : ℕ) (us : List LentRequest) → Unused us → counted p n us ≡ n
unfolding counted
counted_unused p n [] u = refl
counted_unused p n (r ∷ us) (one_unused h u) = rw (← passed_over r p n (sym (counts_unused r p h))) (counted_unused p n us u)

-- the player's pending requests
abbrev pub mine : ℕ → List Request → List Request
mine p rs = keep (λ r. by p r && pending r) rs

counts_is : (p : ℕ) (r : LentRequest) → (r.serial ≡ 0 → ⊥) → counts p r ≡ (by p (request r) && pending (request r))
unfolding counts
counts_is p r h = rw (ne_eqb r.serial 0 h)

counted_used : (p n : ℕ) (rs us : List LentRequest) → Used rs → Unused us → n + length rs < 4294967295 → counted p n (rs ++ us) ≡ n + length (mine p (map request rs))
unfolding counted
counted_used p n [] us k u h = counted_unused p n us u ∙ omega arith
counted_used p n (r ∷ rs) us (one_used s k) u h =
    ⊎_elim
    (λ w.
    ap (λ (m : ℕ). counted p m (rs ++ us)) (sym (one_added r p n (counts_is p r s ∙ w) (omega arith)))
    ∙ counted_used p (n + 1) rs us k u (omega arith)
    ∙ rw w (omega arith))
    (λ w.
    ap (λ (m : ℕ). counted p m (rs ++ us)) (sym (passed_over r p n (counts_is p r s ∙ w)))
    ∙ counted_used p n rs us k u (omega arith)
    ∙ rw w)
    (decide (by p (request r) && pending (request r)))

-- a list of 64 places that holds the requests rs: the reply has the number of the player's pending ones
pub waiting-counts : (p : ℕ) (rs us : List LentRequest) → p ≤ 7 → length (rs ++ us) ≡ 64 → length rs ≤ 64 → Used rs → Unused us → waiting p (rs ++ us) ≡ reply 0 (length (mine p (map request rs))) 0
unfolding waiting
waiting-counts p rs us h l f k u =
    sym (count_given (length (rs ++ us)) p (counted p 0 (rs ++ us)) l h)
    ∙ ap (λ (n : ℕ). reply 0 n 0) (counted_used p 0 rs us k u (omega arith) ∙ omega arith)

-- ---- places made of requests

-- a mark of 0 or 1 is read back
marked_back : (b : Bool) → marked (bit b) ≡ b
marked_back true = refl
marked_back false = refl

-- and so is the request
pub request_back : (r : Request) → request (place_of r) ≡ r
request_back r = rw (marked_back r.overlapped, marked_back r.delivered, marked_back r.abandoned)

pub requests_back : (rs : List Request) → map request (map place_of rs) ≡ rs
requests_back [] = refl
requests_back (r ∷ rs) = rw (request_back r, requests_back rs)

places_used : (n : ℕ) (w : List ℕ) → Used (map place_of (requests_from n w))
unfolding requests_from
places_used zero w = none_left
places_used (suc n) w =
    cond_elim (λ (rs : List Request). Used (map place_of rs)) (eqb (get_or w 0 0) 0) [] (request_of w ∷ requests_from n (drop 12 w)) (λ _. none_left)
    (λ z. one_used (λ e. eqb-false _ _ z (sym (serial_of w) ∙ e)) (places_used n (drop 12 w)))

region_used : (w : List ℕ) → Used (map place_of (requests_of w))
unfolding requests_of
region_used w =
    cond_elim (λ (rs : List Request). Used (map place_of rs)) (whole w) (requests_from places w) [] (λ _. places_used places w) (λ _. none_left)

-- a list made of a region's requests: the reply has the number of the player's pending ones among them
pub waiting_region : (p : ℕ) (w : List ℕ) (us : List LentRequest) → p ≤ 7 → length (map place_of (requests_of w) ++ us) ≡ 64 → Unused us → waiting p (map place_of (requests_of w) ++ us) ≡ reply 0 (length (mine p (requests_of w))) 0
waiting_region p w us h l u =
    waiting-counts p (map place_of (requests_of w)) us h l (rw (length-map (requests_of w) place_of) (requests_few w)) (region_used w) u
    ∙ rw (requests_back (requests_of w))
