-- A region that holds a list of requests: what each call tells of the list, and what it does to it.
-- Assumes nothing.
use mathlib.Core.Path.{◌≡◌, refl, sym, ap, ◌∙◌}
use mathlib.Core.Bool.{Bool, true, false, cond, ◌&&◌}
use mathlib.Core.List.{List, [], ◌∷◌, ◌++◌, map}
use Prim.Native.Nat.{ℕ, zero, suc, ◌+◌, ◌-◌, ◌*◌, ◌≤◌, ◌<◌}
use native.Mathlib.Nat.{add-zero, zero-add, sub-zero, not-suc-le-zero, le_of_suc-le-suc}
use native.Mathlib.Omega.{arith}
use lib.Dec.{eqb}
use lib.ListN.{length, take, drop, set, replicate, get_or-replicate, length-replicate, length-map, replicate-append-replicate}
use lib.Seq.{take-append-add, drop-append-add, drop_at}
use borrow.Author.Tests.{eq-eqb, ne_eqb, eqb-true, lt-ltb}
use Rattle.requests.specs.declared.Request.{Request}
use Rattle.requests.specs.declared.Fit.{Fit}
use Rattle.requests.specs.declared.Found.{Found}
use Rattle.std.specs.Prelude.{Option, Some, None}
use Rattle.requests.specs.Model.{places, serial_is, by, fits, named, writing, using_entry, any, keep, find, drop_request, change_request, mark_overlapped, mark_abandoned, mark_delivered}
use Rattle.requests.specs.Region.{words_of, placed, region_of}
use Rattle.requests.specs.Calls.{At, Nowhere, found_from, found, scan_of, scanned, over, with_request, with_abandoned, with_delivered, closed, without, overlapped_from, crossing, crossed, remains, give_up, remaining, restarted}
use Rattle.requests.proofs.Rising.{Each, In, here, there, fewer_kept}
use Rattle.requests.proofs.RequestRules.{request_fits}
use Rattle.requests.proofs.WordLaws.{over_skip, over_front, drop_zeros, set_from, sets_from}
use Rattle.requests.proofs.Placed.{Requests, request_back, length-placed, requests_region}

-- ---- a request at its place

-- r stands at place k
pub data Stands (r : Request) : ℕ → List Request → Type 0 where
  first : {rs : List Request} → Stands r 0 (r ∷ rs)
  later : {k : ℕ} {q : Request} {rs : List Request} → Stands r k rs → Stands r (suc k) (q ∷ rs)

pub stands_in : {r : Request} {k : ℕ} {rs : List Request} → Stands r k rs → In r rs
stands_in first = here
stands_in (later s) = there (stands_in s)

pub stands_below : {r : Request} {k : ℕ} {rs : List Request} → Stands r k rs → k < length rs
stands_below first = omega arith
stands_below (later s) = let h = stands_below s in omega arith

-- serials that rise
module _ (Q : Request → Type 0) where
  stands_above : {r : Request} {k : ℕ} {rs : List Request} (p : ℕ) → Each Q p rs → Stands r k rs → p < r.serial
  stands_above p t first = t.0
  stands_above p t (later {q = q} s) = let h = stands_above q.serial t.2 s in let i = t.0 in omega arith

  -- a serial that the list has passed
  change_above : (f : Request → Request) (n p : ℕ) (rs : List Request) → n ≤ p → Each Q p rs → change_request n f rs ≡ rs
  change_above f n p [] h t = refl
  change_above f n p (r ∷ rs) h t =
      rw (ne_eqb r.serial n (λ e. omega (arith, t.0)), change_above f n r.serial rs (omega (arith, t.0)) t.2)

  drop_above : (n p : ℕ) (rs : List Request) → n ≤ p → Each Q p rs → drop_request n rs ≡ rs
  drop_above n p [] h t = refl
  drop_above n p (r ∷ rs) h t =
      rw (ne_eqb r.serial n (λ e. omega (arith, t.0)), drop_above n r.serial rs (omega (arith, t.0)) t.2)

-- ---- what a search finds

-- the place that is found, where the list's first is at place i
record Lies (f : Fit) (n i k : ℕ) (r : Request) (rs : List Request) : Type 1 where
  place : ℕ
  counted : k ≡ i + place
  stands : Stands r place rs
  found_first : {A : Type 0} (x : A) (go : Request → A) → find (named f n) rs x go ≡ go r

place_or : ℕ → Option Found → ℕ
place_or k None = k
place_or k (Some a) = a.place

request_or : Request → Option Found → Request
request_or r None = r
request_or r (Some a) = a.request

lies_cond : (f : Fit) (n i k : ℕ) (r q : Request) (rs : List Request) (s b : Bool) → serial_is n q ≡ s → fits f q ≡ b → At k r ≡ cond s (cond b (At i q) Nowhere) (found_from f n (i + 1) rs)
    → (At k r ≡ found_from f n (i + 1) rs → Lies f n (i + 1) k r rs) → Lies f n i k r (q ∷ rs)
unfolding place_or request_or
lies_cond f n i k r q rs true true es eb e g =
    let z : k ≡ i = ap (λ (x : Option Found). place_or k x) e in
    let y : r ≡ q = ap (λ (x : Option Found). request_or r x) e in
    rw y (record { place = 0; counted = z ∙ sym (add-zero i); stands = first; found_first = λ x go. rw (es, eb) })
lies_cond f n i k r q rs true false es eb e g = let z : ◌≡◌ {A = ℕ} 0 1 = cc in absurd (omega arith)
lies_cond f n i k r q rs false b es eb e g =
    let l = g e in
    record { place = suc l.place; counted = let c = l.counted in omega arith; stands = later l.stands; found_first = λ x go. rw es (l.found_first x go) }

lies : (f : Fit) (n i k : ℕ) (r : Request) (rs : List Request) → At k r ≡ found_from f n i rs → Lies f n i k r rs
unfolding found_from
lies f n i k r [] e = let z : ◌≡◌ {A = ℕ} 0 1 = cc in absurd (omega arith)
lies f n i k r (q ∷ rs) e = lies_cond f n i k r q rs (serial_is n q) (fits f q) refl refl e (λ p. lies f n (i + 1) k r rs p)

module _ {A : Type 0} (f : Fit) (n : ℕ) (x : A) (go : Request → A) where
  nowhere_cond : (i : ℕ) (r : Request) (rs : List Request) (s b : Bool) → Nowhere ≡ cond s (cond b (At i r) Nowhere) (found_from f n (i + 1) rs)
      → (s ≡ true → find (named f n) rs x go ≡ x) → (Nowhere ≡ found_from f n (i + 1) rs → find (named f n) rs x go ≡ x)
      → cond (s && b) (go r) (find (named f n) rs x go) ≡ x
  nowhere_cond i r rs true true e g h = let z : ◌≡◌ {A = ℕ} 0 1 = cc in absurd (omega arith)
  nowhere_cond i r rs true false e g h = g refl
  nowhere_cond i r rs false b e g h = h e

  module _ (Q : Request → Type 0) where
    -- a serial that the list has passed
    find_above : (p : ℕ) (rs : List Request) → n ≤ p → Each Q p rs → find (named f n) rs x go ≡ x
    find_above p [] h t = refl
    find_above p (r ∷ rs) h t =
        rw (ne_eqb r.serial n (λ e. omega (arith, t.0))) (find_above r.serial rs (omega (arith, t.0)) t.2)

    find_nowhere : (i p : ℕ) (rs : List Request) → Each Q p rs → Nowhere ≡ found_from f n i rs → find (named f n) rs x go ≡ x
    unfolding found_from
    find_nowhere i p [] t e = refl
    find_nowhere i p (r ∷ rs) t e =
        nowhere_cond i r rs (serial_is n r) (fits f r) e
        (λ s. let y = eqb-true r.serial n s in find_above r.serial rs (omega (arith, y)) t.2)
        (λ d. find_nowhere (i + 1) r.serial rs t.2 d)

-- ---- words of places

module _ (Q : Request → Type 0) where
  -- the words of one place changed: P does it to words of which the place's own stand first
  change_placed : {r : Request} {k : ℕ} {rs : List Request} (m : ℕ) (f : Request → Request) (P : List ℕ → List ℕ) → ((x : List ℕ) → P (words_of r ++ x) ≡ words_of (f r) ++ x)
      → (p : ℕ) → Each Q p rs → length rs ≤ m → Stands r k rs → take (k * 12) (placed m rs) ++ P (drop (k * 12) (placed m rs)) ≡ placed m (change_request r.serial f rs)
  unfolding placed
  change_placed zero f P e p t l first = absurd (not-suc-le-zero l)
  change_placed {r = r} (suc m) f P e p t l (first {rs}) =
      rw (eq-eqb r.serial r.serial refl, change_above Q f r.serial r.serial rs (omega arith) t.2) (e (placed m rs))
  change_placed zero f P e p t l (later s) = absurd (not-suc-le-zero l)
  change_placed {r = r} (suc m) f P e p t l (later {k} {q} {rs} s) =
      let n : suc k * 12 ≡ length (words_of q) + k * 12 = omega arith in
      rw (
        n,
        take-append-add (words_of q) (placed m rs) (k * 12),
        drop-append-add (words_of q) (placed m rs) (k * 12),
        ne_eqb q.serial r.serial (λ y. omega (arith, stands_above Q q.serial t.2 s)),
      )
      (ap (λ (x : List ℕ). words_of q ++ x) (change_placed m f P e q.serial t.2 (le_of_suc-le-suc l) s))

  -- one place more
  placed_more : (m : ℕ) (rs : List Request) → length rs ≤ m → placed m rs ++ replicate 12 0 ≡ placed (suc m) rs
  unfolding placed
  placed_more m [] l = let n : m * 12 + 12 ≡ suc m * 12 = omega arith in replicate-append-replicate {A = ℕ} (m * 12) 12 0 ∙ rw n
  placed_more zero (r ∷ rs) l = absurd (not-suc-le-zero l)
  placed_more (suc m) (r ∷ rs) l = ap (λ (x : List ℕ). words_of r ++ x) (placed_more m rs (le_of_suc-le-suc l))

  closed-placed : {r : Request} {k : ℕ} {rs : List Request} (m p : ℕ) → Each Q p rs → length rs ≤ m → Stands r k rs → closed k (placed m rs) ≡ placed m (drop_request r.serial rs)
  unfolding placed closed
  closed-placed zero p t l first = absurd (not-suc-le-zero l)
  closed-placed {r = r} (suc m) p t l (first {rs}) =
      rw (eq-eqb r.serial r.serial refl, drop_above Q r.serial r.serial rs (omega arith) t.2) (placed_more m rs (le_of_suc-le-suc l))
  closed-placed zero p t l (later s) = absurd (not-suc-le-zero l)
  closed-placed {r = r} (suc m) p t l (later {k} {q} {rs} s) =
      let n : suc k * 12 ≡ length (words_of q) + k * 12 = omega arith in
      let n' : length (words_of q) + k * 12 + 12 ≡ length (words_of q) + (k * 12 + 12) = omega arith in
      rw (
        n,
        n',
        take-append-add (words_of q) (placed m rs) (k * 12),
        drop-append-add (words_of q) (placed m rs) (k * 12 + 12),
        ne_eqb q.serial r.serial (λ y. omega (arith, stands_above Q q.serial t.2 s)),
      )
      (ap (λ (x : List ℕ). words_of q ++ x) (closed-placed m q.serial t.2 (le_of_suc-le-suc l) s))

-- a request put at the first place that is not used
append-placed : (m : ℕ) (rs : List Request) (r : Request) → length rs < m → over (placed m rs) (length rs * 12) (words_of r) ≡ placed m (rs ++ (r ∷ []))
unfolding placed
append-placed zero rs r h = absurd (not-suc-le-zero h)
append-placed (suc m) [] r h =
    let n : suc m * 12 ≡ 12 + m * 12 = omega arith in
    over_front (replicate (suc m * 12) 0) (words_of r) (rw length-replicate (omega arith)) ∙ rw (n, drop_zeros 12 (m * 12))
append-placed (suc m) (q ∷ rs) r h =
    let n : suc (length rs) * 12 ≡ length (words_of q) + length rs * 12 = omega arith in
    rw (n, over_skip (words_of q) (placed m rs) (length rs * 12) (words_of r)) (ap (λ (x : List ℕ). words_of q ++ x) (append-placed m rs r (le_of_suc-le-suc h)))

-- ---- the words of a list, and of places that are changed all

-- the words of some requests, one after the other
flat : List Request → List ℕ
flat [] = []
flat (r ∷ rs) = words_of r ++ flat rs

length_flat : (rs : List Request) → length (flat rs) ≡ length rs * 12
unfolding flat
length_flat [] = refl
length_flat (r ∷ rs) = omega (arith, length_flat rs)

placed_flat : (m : ℕ) (rs : List Request) → length rs ≤ m → placed m rs ≡ flat rs ++ replicate ((m - length rs) * 12) 0
unfolding placed flat
placed_flat m [] l = rw sub-zero
placed_flat zero (r ∷ rs) l = absurd (not-suc-le-zero l)
placed_flat (suc m) (r ∷ rs) l =
    let e : suc m - suc (length rs) ≡ m - length rs = omega arith in
    rw (placed_flat m rs (le_of_suc-le-suc l), e)

unused_words : (m : ℕ) (rs : List Request) → length rs ≤ m → drop (length rs * 12) (placed m rs) ≡ replicate ((m - length rs) * 12) 0
unused_words m rs l = rw (placed_flat m rs l) (drop_at (flat rs) (replicate ((m - length rs) * 12) 0) (length rs * 12) (length_flat rs))

-- the words of a place, with a mark
overlapped_words : (b : Bool) (r : Request) (x : List ℕ) → take 12 (cond b (set (words_of r ++ x) 7 1) (words_of r ++ x)) ≡ words_of (cond b (mark_overlapped r) r)
overlapped_words true r x = refl
overlapped_words false r x = refl

abandoned_words : (b : Bool) (r : Request) (x : List ℕ) → take 12 (cond b (set (words_of r ++ x) 9 1) (words_of r ++ x)) ≡ words_of (cond b (mark_abandoned r) r)
abandoned_words true r x = refl
abandoned_words false r x = refl

overlapped_placed : (f : Request → Bool) (n p m : ℕ) (rs : List Request) → Requests n p rs → length rs ≤ m → overlapped_from f m (placed m rs) ≡ placed m (map (λ r. cond (f r) (mark_overlapped r) r) rs)
unfolding overlapped_from placed
overlapped_placed f n p zero [] q l = refl
overlapped_placed f n p (suc m) [] q l = rw (get_or-replicate {A = ℕ} (suc m * 12) 0 0 0 (omega arith))
overlapped_placed f n p zero (r ∷ rs) q l = absurd (not-suc-le-zero l)
overlapped_placed f n p (suc m) (r ∷ rs) q l =
    rw (
      ne_eqb r.serial 0 (λ z. omega (arith, q.0)),
      request_back r (placed m rs) (request_fits n r q.1),
      overlapped_words (f r) r (placed m rs),
      overlapped_placed f n r.serial m rs q.2 (le_of_suc-le-suc l),
    )

-- the requests that remain when the player restarts
abbrev pub given_up : ℕ → List Request → List Request
given_up i rs = map (give_up i) (keep (remains i) rs)

remaining-cond : (i : ℕ) (b : Bool) (r : Request) (rs : List Request) → cond b (words_of (give_up i r) ++ flat (given_up i rs)) (flat (given_up i rs)) ≡ flat (map (give_up i) (cond b (r ∷ keep (remains i) rs) (keep (remains i) rs)))
unfolding flat
remaining-cond i true r rs = refl
remaining-cond i false r rs = refl

remaining-placed : (i n p m : ℕ) (rs : List Request) → Requests n p rs → length rs ≤ m → remaining i m (placed m rs) ≡ flat (given_up i rs)
unfolding remaining placed flat
remaining-placed i n p zero [] q l = refl
remaining-placed i n p (suc m) [] q l = rw (get_or-replicate {A = ℕ} (suc m * 12) 0 0 0 (omega arith))
remaining-placed i n p zero (r ∷ rs) q l = absurd (not-suc-le-zero l)
remaining-placed i n p (suc m) (r ∷ rs) q l =
    rw (
      ne_eqb r.serial 0 (λ z. omega (arith, q.0)),
      request_back r (placed m rs) (request_fits n r q.1),
      abandoned_words (by i r) r (placed m rs),
      remaining-placed i n r.serial m rs q.2 (le_of_suc-le-suc l),
    )
    (remaining-cond i (remains i r) r rs)

-- ---- the calls

is_whole : (rs : List Request) → eqb (length (region_of rs)) 768 ≡ true
is_whole rs = eq-eqb (length (region_of rs)) 768 (length-placed places rs)

pub append_region : (rs : List Request) (r : Request) → length rs < places → with_request (length rs) r (region_of rs) ≡ region_of (rs ++ (r ∷ []))
unfolding with_request
append_region rs r h = rw (is_whole rs) (append-placed places rs r h)

module _ (n : ℕ) (rs : List Request) (few : length rs ≤ places) (q : Requests n 0 rs) where
  pub scanned_region : (f : Request → Bool) → scanned f (region_of rs) ≡ scan_of f rs
  scanned_region f = rw (requests_region n rs few q)

  -- nothing is found
  pub nowhere_region : {A : Type 0} (f : Fit) (i : ℕ) (x : A) (go : Request → A) → Nowhere ≡ found f i (region_of rs) → find (named f i) rs x go ≡ x
  nowhere_region f i x go e = find_nowhere f i x go _ 0 0 rs q (e ∙ ap (found_from f i 0) (requests_region n rs few q))

  module _ (f : Fit) (i k : ℕ) (r : Request) (e : At k r ≡ found f i (region_of rs)) where
    here_lies : Lies f i 0 k r rs
    here_lies = lies f i 0 k r rs (e ∙ ap (found_from f i 0) (requests_region n rs few q))

    pub found_stands : Stands r k rs
    found_stands = let l = here_lies in let z : k ≡ l.place = l.counted ∙ zero-add l.place in rw z l.stands

    pub found_region : {A : Type 0} (x : A) (go : Request → A) → find (named f i) rs x go ≡ go r
    found_region x go = here_lies.found_first x go

  -- the request at place k
  module _ {k : ℕ} {r : Request} (s : Stands r k rs) where
    pub without_region : without k (region_of rs) ≡ region_of (drop_request r.serial rs)
    unfolding without
    without_region =
        let h : k < places = let b = stands_below s in omega arith in
        rw (is_whole rs, lt-ltb k places h) (closed-placed _ places 0 q few s)

    pub abandoned_region : with_abandoned k (region_of rs) ≡ region_of (change_request r.serial mark_abandoned rs)
    unfolding with_abandoned
    abandoned_region =
        rw (is_whole rs) (set_from (region_of rs) (k * 12) 9 1 ∙ change_placed _ places mark_abandoned (λ w. set w 9 1) (λ x. refl) 0 q few s)

    pub delivered_region : (a b : ℕ) → with_delivered k a b (region_of rs) ≡ region_of (change_request r.serial (mark_delivered a b) rs)
    unfolding with_delivered
    delivered_region a b =
        rw (is_whole rs)
        (sets_from (region_of rs) (k * 12) 8 1 10 a 11 b ∙ change_placed _ places (mark_delivered a b) (λ w. set (set (set w 8 1) 10 a) 11 b) (λ x. refl) 0 q few s)

  pub crossed_region : (i e : ℕ) → crossed i e (region_of rs) ≡ crossing (any (writing i e) rs) (region_of (map (λ r. cond (using_entry i e r) (mark_overlapped r) r) rs))
  unfolding crossed
  crossed_region i e = rw (requests_region n rs few q, is_whole rs, overlapped_placed (using_entry i e) n 0 places rs q few)

  pub restarted_region : (i : ℕ) → restarted i (region_of rs) ≡ region_of (given_up i rs)
  unfolding restarted
  restarted_region i =
      let l : List Request = given_up i rs in
      let h : length l ≤ length rs = omega (arith, length-map (keep (remains i) rs) (give_up i), fewer_kept (remains i) rs) in
      let e : length rs * 12 - length l * 12 + (places - length rs) * 12 ≡ (places - length l) * 12 = omega arith in
      rw (requests_region n rs few q, is_whole rs, remaining-placed i n 0 places rs q few, length_flat l, unused_words places rs few, placed_flat places l (omega arith))
      (ap (λ (x : List ℕ). flat l ++ x) (replicate-append-replicate {A = ℕ} (length rs * 12 - length l * 12) ((places - length rs) * 12) 0 ∙ ap (λ (k : ℕ). replicate {A = ℕ} k 0) e))
