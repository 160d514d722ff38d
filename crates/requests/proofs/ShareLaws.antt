-- The shares of a changed list of requests, and what follows from them (document 02 §5).
-- Assumes nothing.
use mathlib.Core.Path.{◌≡◌, refl, sym, ap, ◌∙◌, subst}
use mathlib.Core.Logic.{◌≢◌, ⊎_elim}
use mathlib.Core.Bool.{Bool, true, false, cond, ◌&&◌, ◌||◌}
use mathlib.Core.List.{List, [], ◌∷◌, ◌++◌, map}
use Prim.Native.Nat.{ℕ, zero, suc, ◌+◌, ◌*◌, ◌-◌, ◌≤◌, ◌<◌}
use native.Mathlib.Omega.{arith}
use borrow.Author.Tests.{eqb-true, eqb-false, ne_eqb, lt-leb, leb-false}
use lib.Dec.{leb, eqb}
use lib.ListN.{length, length-append}
use Rattle.requests.specs.declared.Request.{Request}
use Rattle.requests.specs.Model.{places, loader, new_request, by, serial_is, keep, change_request}
use Rattle.requests.specs.Shares.{own_places, common_places, count_by, above_own, common, common_used, turned_away, no_place}
use Rattle.requests.proofs.Basics.{decide, cond_elim}
use Rattle.requests.proofs.Rising.{In, here, there}

-- the shares are kept
abbrev pub Shares : List Request → Type 0
Shares rs = common_used rs ≤ common_places

-- how many requests each has, by its number
abbrev pub counting : List Request → ℕ → ℕ
counting rs p = count_by p rs

-- ---- counting the requests of a changed list

-- nobody has more than before
abbrev NoMore : List Request → List Request → Type 0
NoMore rs rs' = (p : ℕ) → count_by p rs' ≤ count_by p rs

-- one more or not
counts_on : (b : Bool) (m n : ℕ) → m ≤ n → cond b (suc m) m ≤ cond b (suc n) n
counts_on true m n h = omega arith
counts_on false m n h = h

counts_over : (b : Bool) (m n : ℕ) → m ≤ n → m ≤ cond b (suc n) n
counts_over true m n h = omega arith
counts_over false m n h = h

keep_no_more : (f : Request → Bool) (rs : List Request) → NoMore rs (keep f rs)
keep_no_more f [] p = omega arith
keep_no_more f (r ∷ rs) p =
    let h = keep_no_more f rs p in
    cond_elim (λ z. count_by p z ≤ count_by p (r ∷ rs)) (f r) (r ∷ keep f rs) (keep f rs) (λ _. counts_on (by p r) _ _ h) (λ _. counts_over (by p r) _ _ h)

map_count : (f : Request → Request) → ((r : Request) → (f r).player ≡ r.player) → (rs : List Request) (p : ℕ) → count_by p (map f rs) ≡ count_by p rs
map_count f h [] p = refl
map_count f h (r ∷ rs) p =
    let a : by p (f r) ≡ by p r = ap (λ k. eqb k p) (h r) in
    ap (λ b. cond b (suc (count_by p (map f rs))) (count_by p (map f rs))) a ∙ ap (λ n. cond (by p r) (suc n) n) (map_count f h rs p)

-- of which some are changed, as a test chooses
pub choice_count : (t : Request → Bool) (f : Request → Request) → ((r : Request) → (f r).player ≡ r.player) → (rs : List Request) (p : ℕ) → count_by p (map (λ r. cond (t r) (f r) r) rs) ≡ count_by p rs
choice_count t f h = map_count (λ r. cond (t r) (f r) r) (λ r. cond_elim (λ (y : Request). y.player ≡ r.player) (t r) (f r) r (λ _. h r) (λ _. refl))

changed_count : (n : ℕ) (f : Request → Request) → ((r : Request) → (f r).player ≡ r.player) → (rs : List Request) (p : ℕ) → count_by p (change_request n f rs) ≡ count_by p rs
changed_count n = choice_count (serial_is n)

-- a request more: of its player one more, of all others as many
append_other : (rs : List Request) (n : Request) (p : ℕ) → n.player ≢ p → count_by p (rs ++ (n ∷ [])) ≡ count_by p rs
append_other [] n p h = let a : by p n ≡ false = ne_eqb n.player p h in rw a
append_other (r ∷ rs) n p h = ap (λ k. cond (by p r) (suc k) k) (append_other rs n p h)

suc_out : (b : Bool) (n : ℕ) → cond b (suc (suc n)) (suc n) ≡ suc (cond b (suc n) n)
suc_out true n = refl
suc_out false n = refl

append_own : (rs : List Request) (n : Request) → count_by n.player (rs ++ (n ∷ [])) ≡ suc (count_by n.player rs)
append_own [] n = let a : by n.player n ≡ true = itself n.player in rw a
  where
    itself : (p : ℕ) → eqb p p ≡ true
    itself p = ⊎_elim (λ t. t) (λ t. absurd (eqb-false p p t refl)) (decide (eqb p p))
append_own (r ∷ rs) n = ap (λ k. cond (by n.player r) (suc k) k) (append_own rs n) ∙ suc_out (by n.player r) (count_by n.player rs)

-- ---- the common places in use

-- of two counts for each player, where the second are not larger
module _ (c d : ℕ → ℕ) where
  above_no_more : ((p : ℕ) → d p - own_places ≤ c p - own_places) → (n : ℕ) → above_own d n ≤ above_own c n
  above_no_more h zero = omega arith
  above_no_more h (suc n) = let a = h n in let b = above_no_more h n in omega arith

  -- where they are not larger but for player p: of those below p
  above_below : (p : ℕ) → ((q : ℕ) → q ≢ p → d q ≤ c q) → (n : ℕ) → n ≤ p → above_own d n ≤ above_own c n
  above_below p h zero le = omega arith
  above_below p h (suc n) le = let a = h n (omega arith) in let b = above_below p h n (omega arith) in omega arith

  -- one more of player p
  module _ (p : ℕ) (h : (q : ℕ) → q ≢ p → d q ≤ c q) (k : d p ≤ suc (c p)) where
    most : (n : ℕ) → n ≡ p → d n ≤ suc (c n)
    most n e = subst (λ z. d z ≤ suc (c z)) (sym e) k

    above_one : (n : ℕ) → above_own d n ≤ suc (above_own c n)
    above_one zero = omega arith
    above_one (suc n) =
        ⊎_elim (λ t. let e = eqb-true n p t in let a = most n e in let b = above_below p h n (omega arith) in omega arith)
        (λ t. let a = h n (eqb-false n p t) in let b = above_one n in omega arith) (decide (eqb n p))

    -- one more common place at most
    common_one : common d ≤ suc (common c)
    common_one =
        ⊎_elim (λ t. let e = eqb-true loader p t in let a = most loader e in let b = above_below p h loader (omega arith) in omega arith)
        (λ t. let a = h loader (eqb-false loader p t) in let b = above_one loader in omega arith) (decide (eqb loader p))

    -- and none where the player has a place of its own
    common_own : p < loader → c p < own_places → common d ≤ common c
    common_own lt own =
        let a = h loader (omega arith) in
        let b = above_no_more (λ q. ⊎_elim (λ t. let e = eqb-true q p t in let x = most q e in let y : c q < own_places = subst (λ z. c z < own_places) (sym e) own in omega arith) (λ t. let x = h q (eqb-false q p t) in omega arith) (decide (eqb q p))) loader in
        omega arith

common_no_more : (rs rs' : List Request) → NoMore rs rs' → common_used rs' ≤ common_used rs
common_no_more rs rs' h =
    let a = h loader in
    let b = above_no_more (counting rs) (counting rs') (λ p. let c = h p in omega arith) loader in
    omega arith

pub as_many_shares : (rs rs' : List Request) → ((p : ℕ) → count_by p rs' ≡ count_by p rs) → Shares rs → Shares rs'
as_many_shares rs rs' h k = let a = common_no_more rs rs' (λ p. let c = h p in omega arith) in omega arith

pub kept_shares : (f : Request → Bool) (rs : List Request) → Shares rs → Shares (keep f rs)
kept_shares f rs k = let a = common_no_more rs (keep f rs) (keep_no_more f rs) in omega arith

pub changed_shares : (n : ℕ) (f : Request → Request) → ((r : Request) → (f r).player ≡ r.player) → (rs : List Request) → Shares rs → Shares (change_request n f rs)
changed_shares n f h rs = as_many_shares rs (change_request n f rs) (changed_count n f h rs)

-- ---- a place is left

-- a common one, or one of the player's own
data Left (c : ℕ → ℕ) (p : ℕ) : Type 0 where
  a_common : common c < common_places → Left c p
  its_own : p < loader → c p < own_places → Left c p

left_shown : (c : ℕ → ℕ) (p : ℕ) → turned_away c p ≡ false → Left c p
left_shown c p t = go (leb loader p) refl (leb own_places (c p)) refl (leb common_places (common c)) refl t
  where
    go : (a : Bool) → leb loader p ≡ a → (b : Bool) → leb own_places (c p) ≡ b → (d : Bool) → leb common_places (common c) ≡ d → ((a || b) && d) ≡ false → Left c p
    go a x b y false z t = a_common (leb-false common_places (common c) z)
    go false x false y true z t = its_own (leb-false loader p x) (leb-false own_places (c p) y)
    go false x true y true z t = absurd (let e : ◌≡◌ {A = ℕ} 0 1 = cc in omega arith)
    go true x b y true z t = absurd (let e : ◌≡◌ {A = ℕ} 0 1 = cc in omega arith)

-- ‘A player with fewer than 6 rows is never turned away for want of one’
pub own_place_left : (p : ℕ) (rs : List Request) → p < loader → count_by p rs < own_places → no_place p rs ≡ false
own_place_left p rs lt h = rw (lt-leb loader p lt, lt-leb own_places (count_by p rs) h)

-- a request more, after requests of which everybody has as many as before, keeps the shares where a place was left for it
pub appended_shares : (rs ms : List Request) (n : Request) → ((p : ℕ) → count_by p ms ≡ count_by p rs) → Shares rs → no_place n.player rs ≡ false → Shares (ms ++ (n ∷ []))
appended_shares rs ms n same s t = go (left_shown (counting rs) n.player t)
  where
    others : (q : ℕ) → q ≢ n.player → count_by q (ms ++ (n ∷ [])) ≤ count_by q rs
    others q h = let a = append_other ms n q (λ z. h (sym z)) in let b = same q in omega arith

    own : count_by n.player (ms ++ (n ∷ [])) ≤ suc (count_by n.player rs)
    own = let a = append_own ms n in let b = same n.player in omega arith

    go : Left (counting rs) n.player → Shares (ms ++ (n ∷ []))
    go (a_common c) = let a = common_one (counting rs) (counting (ms ++ (n ∷ []))) n.player others own in omega arith
    go (its_own lt c) = let a = common_own (counting rs) (counting (ms ++ (n ∷ []))) n.player others own lt c in omega arith

-- ---- so there are at most 64

-- the requests of those below n
abbrev total : ℕ → List Request → ℕ
total zero rs = 0
total (suc n) rs = count_by n rs + total n rs

total_other : (n : ℕ) (r : Request) (rs : List Request) → n ≤ r.player → total n (r ∷ rs) ≡ total n rs
total_other zero r rs h = refl
total_other (suc n) r rs h =
    let a : by n r ≡ false = ne_eqb r.player n (omega arith) in
    let b : count_by n (r ∷ rs) ≡ count_by n rs = rw a in
    let c = total_other n r rs (omega arith) in
    omega arith

total_one : (n : ℕ) (r : Request) (rs : List Request) → r.player < n → total n (r ∷ rs) ≡ suc (total n rs)
total_one zero r rs h = absurd (omega arith)
total_one (suc n) r rs h = go (by n r) refl (λ k. total_one n r rs k)
  where
    go : (b : Bool) → by n r ≡ b → (r.player < n → total n (r ∷ rs) ≡ suc (total n rs)) → cond b (suc (count_by n rs)) (count_by n rs) + total n (r ∷ rs) ≡ suc (count_by n rs + total n rs)
    go true t ih = let e = eqb-true r.player n t in let a = total_other n r rs (omega arith) in omega arith
    go false t ih = let e = eqb-false r.player n t in let a = ih (omega arith) in omega arith

length-total : (rs : List Request) → ((r : Request) → In r rs → r.player ≤ loader) → length rs ≡ total 9 rs
length-total [] h = refl
length-total (r ∷ rs) h =
    let a = h r here in
    let b : total 9 (r ∷ rs) ≡ suc (total 9 rs) = total_one 9 r rs (omega arith) in
    ap suc (length-total rs (λ q m. h q (there m))) ∙ sym b

total_shares : (n : ℕ) (rs : List Request) → total n rs ≤ own_places * n + above_own (counting rs) n
total_shares zero rs = omega arith
total_shares (suc n) rs = let a = total_shares n rs in omega arith

pub at_most_places : (rs : List Request) → ((r : Request) → In r rs → r.player ≤ loader) → Shares rs → length rs ≤ places
at_most_places rs h k = let a = length-total rs h in let b = total_shares loader rs in omega arith

-- and where a place is left, fewer
pub place_left : (p : ℕ) (rs : List Request) → p ≤ loader → ((r : Request) → In r rs → r.player ≤ loader) → Shares rs → no_place p rs ≡ false → length rs < places
place_left p rs le h k t =
    let n = new_request 0 p 0 0 0 0 0 false in
    let a = at_most_places (rs ++ (n ∷ [])) (joined rs h) (appended_shares rs rs n (λ _. refl) k t) in
    let b = length-append rs (n ∷ []) in
    omega arith
  where
    joined : (rs : List Request) → ((r : Request) → In r rs → r.player ≤ loader) → (r : Request) → In r (rs ++ (new_request 0 p 0 0 0 0 0 false ∷ [])) → r.player ≤ loader
    joined [] h r here = le
    joined [] h r (there m) = elim m [ ]
    joined (q ∷ rs) h r here = h q here
    joined (q ∷ rs) h r (there m) = joined rs (λ x i. h x (there i)) r m
