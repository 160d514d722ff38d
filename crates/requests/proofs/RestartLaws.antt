-- The restart of a player: the pass that keeps the requests that remain.
-- Assumes nothing.
use mathlib.Core.Path.{◌≡◌, refl, sym, ap, ◌∙◌}
use mathlib.Core.Bool.{Bool, true, false, cond}
use mathlib.Core.List.{List, [], ◌++◌, append-nil, append_assoc}
use Prim.Native.Nat.{ℕ, suc, ◌+◌, ◌-◌, ◌*◌, ◌≤◌, ◌<◌}
use native.Mathlib.Nat.{zero-add}
use native.Mathlib.Omega.{arith}
use lib.ListN.{length, get_or, take, drop, set, replicate, length-set, length-drop}
use lib.Seq.{length-take-le, drop-drop, take-set-lt}
use borrow.Author.Tests.{eq-eqb, ne_eqb}
use borrow.Rule.Slice.PartMut.{put_mid}
use Rattle.requests.specs.declared.Request.{Request}
use Rattle.requests.specs.Model.{by}
use Rattle.requests.specs.Region.{request_of, request_at, requests_from, requests_of}
use Rattle.requests.specs.Calls.{over, remains, given_up_words, Carried, carried, carry, remaining, restarted}
use Rattle.requests.proofs.Basics.{cond_elim}
use Rattle.requests.proofs.WordLaws.{length-over, take-over, drop-over}
use Rattle.requests.proofs.ScanLaws.{from, from_start, from_used, first_word, next_place, place_used, not_used}

module _ (p j k : ℕ) (w : List ℕ) (r : Request) (er : r ≡ request_at w k) where
  pub carry-not : remains p r ≡ false → carried j w ≡ carry p j k w
  unfolding carry
  carry-not e = rw (← er, e)

  abbrev place : List ℕ
  place = take 12 (drop (k * 12) w)

  given_up : (b : Bool) → cond b (set place 9 1) place ≡ take 12 (cond b (set (drop (k * 12) w) 9 1) (drop (k * 12) w))
  given_up true = sym (take-set-lt 12 (drop (k * 12) w) 9 1 (omega arith))
  given_up false = refl

  pub carry_done : remains p r ≡ true → (c : List ℕ) → c ≡ cond (by p r) (set place 9 1) place → carried (j + 1) (over w (j * 12) c) ≡ carry p j k w
  unfolding carry
  carry_done e c ec = rw (← er, e, ec, given_up (by p r))

-- the places below k have been passed, and of their requests those that remain stand in the first j places
pub record Packed (p j k : ℕ) (w₀ w : List ℕ) : Type 0 where
  pub order : j ≤ k
  pub long : length w ≡ 768
  pub front : take (j * 12) w ++ remaining p (64 - k) (drop (k * 12) w) ≡ remaining p 64 w₀
  pub back : drop (k * 12) w ≡ drop (k * 12) w₀
  pub count : k + length (from w₀ k) ≡ length (requests_of w₀)

pub pack_start : (p : ℕ) (w : List ℕ) → length w ≡ 768 → Packed p 0 0 w w
pack_start p w l = record { order = omega arith; long = l; front = refl; back = refl; count = rw (from_start w l, zero-add) }

module _ (p j k : ℕ) (w₀ w : List ℕ) (m : Packed p j k w₀ w) where
  abbrev x : List ℕ
  x = drop (k * 12) w

  abbrev x' : List ℕ
  x' = drop ((k + 1) * 12) w

  first₀ : get_or w₀ (k * 12) 0 ≡ get_or w (k * 12) 0
  first₀ = sym (first_word w₀ k) ∙ ap (λ (l : List ℕ). get_or l 0 0) (sym m.back) ∙ first_word w k

  -- place k is used
  module _ (h : k < 64) (z : get_or w (k * 12) 0 ≡ 0 → ⊥) where
    one : 64 - k ≡ suc (64 - (k + 1))
    one = omega arith

    next_count : k + 1 + length (from w₀ (k + 1)) ≡ length (requests_of w₀)
    next_count =
        let u = from_used w₀ k h (λ y. z (sym first₀ ∙ y)) in
        omega (arith, m.count, ap length u)

    next_back : x' ≡ drop ((k + 1) * 12) w₀
    next_back = next_place w k ∙ ap (drop 12) m.back ∙ sym (next_place w₀ k)

    length-place : (b : Bool) → length (take 12 (cond b (set x 9 1) x)) ≡ 12
    length-place b =
        let l = m.long in
        let n : 12 ≤ length x = rw length-drop (omega arith) in
        length-take-le 12 (cond b (set x 9 1) x) (cond_elim (λ (y : List ℕ). 12 ≤ length y) b (set x 9 1) x (λ _. rw length-set n) (λ _. n))

    here : remaining p (64 - k) x ≡ cond (remains p (request_of x)) (given_up_words p x ++ remaining p (64 - (k + 1)) x') (remaining p (64 - (k + 1)) x')
    unfolding remaining
    here = rw (one, first_word w k, ne_eqb (get_or w (k * 12) 0) 0 z, next_place w k)

    pack_cases : (j' : ℕ) (w' : List ℕ) (b : Bool) → remains p (request_of x) ≡ b → carried j' w' ≡ cond b (carried (j + 1) (over w (j * 12) (given_up_words p x))) (carried j w) → Packed p j' (k + 1) w₀ w'
    pack_cases j' w' true eb e =
        let c : List ℕ = given_up_words p x in
        let ej : j' ≡ j + 1 = ap (λ (d : Carried). d.next) e in
        let ew : w' ≡ over w (j * 12) c = ap (λ (d : Carried). d.words) e in
        let lc : length c ≡ 12 = length-place (by p (request_of x)) in
        let o = m.order in
        let l = m.long in
        let n : (j + 1) * 12 ≡ j * 12 + length c = omega arith in
        let t : take ((j + 1) * 12) w' ≡ take (j * 12) w ++ c = rw (ew, n) (take-over w (j * 12) c (omega arith)) in
        let d : drop ((k + 1) * 12) w' ≡ x' = rw ew (drop-over w (j * 12) c (omega arith) ((k + 1) * 12) (omega arith)) in
        rw ej
        (record {
          order = omega arith;
          long = ap length ew ∙ length-over w (j * 12) c (omega arith) ∙ l;
          front = rw (t, d) (append_assoc (take (j * 12) w) c (remaining p (64 - (k + 1)) x') ∙ ap (λ (y : List ℕ). take (j * 12) w ++ y) (sym (here ∙ rw eb)) ∙ m.front);
          back = d ∙ next_back;
          count = next_count;
        })
    pack_cases j' w' false eb e =
        let ej : j' ≡ j = ap (λ (d : Carried). d.next) e in
        let ew : w' ≡ w = ap (λ (d : Carried). d.words) e in
        let o = m.order in
        rw (ej, ew)
        (record {
          order = omega arith;
          long = m.long;
          front = ap (λ (y : List ℕ). take (j * 12) w ++ y) (sym (here ∙ rw eb)) ∙ m.front;
          back = next_back;
          count = next_count;
        })

    pub pack_on : (j' : ℕ) (w' : List ℕ) → carried j' w' ≡ carry p j k w → Packed p j' (k + 1) w₀ w'
    unfolding carry
    pack_on j' w' e = pack_cases j' w' (remains p (request_of x)) refl e

  -- place k is not used, and the places from j up to k are made 0
  pub pack_done : from w k ≡ [] → remaining p (64 - k) x ≡ [] → k ≤ 64 → length w₀ ≡ 768 → (z : List ℕ) → z ≡ replicate (length (take (k * 12 - j * 12) (drop (j * 12) w))) 0 → put_mid (j * 12) (k * 12 - j * 12) w z ≡ restarted p w₀
  unfolding restarted
  pack_done f r h l z ez =
      let o = m.order in
      let n : j * 12 + (k * 12 - j * 12) ≡ k * 12 = omega arith in
      let lw = m.long in
      let lz : length (take (k * 12 - j * 12) (drop (j * 12) w)) ≡ k * 12 - j * 12 = length-take-le (k * 12 - j * 12) (drop (j * 12) w) (rw length-drop (omega arith)) in
      let front : take (j * 12) w ≡ remaining p 64 w₀ = sym (append-nil (take (j * 12) w)) ∙ ap (λ (y : List ℕ). take (j * 12) w ++ y) (sym r) ∙ m.front in
      let lf : length (remaining p 64 w₀) ≡ j * 12 = ap length (sym front) ∙ length-take-le (j * 12) w (omega arith) in
      let f₀ : from w₀ k ≡ [] = ap (requests_from (64 - k)) (sym m.back) ∙ f in
      let count : length (requests_of w₀) ≡ k = omega (arith, m.count, ap length f₀) in
      rw (eq-eqb (length w₀) 768 l, count, lf, ez, lz, front, drop-drop, n, m.back)

-- the rest of the region, where place k is not used
module _ (p : ℕ) (w : List ℕ) (k : ℕ) where
  no_rest : 64 ≤ k → remaining p (64 - k) (drop (k * 12) w) ≡ []
  unfolding remaining
  no_rest h = let x : 64 - k ≡ 0 = omega arith in rw x

  unused_rest : k < 64 → get_or w (k * 12) 0 ≡ 0 → remaining p (64 - k) (drop (k * 12) w) ≡ []
  unfolding remaining
  unused_rest h z =
      let x : 64 - k ≡ suc (64 - (k + 1)) = omega arith in
      rw (x, first_word w k, eq-eqb (get_or w (k * 12) 0) 0 z)

  pub rest_none : place_used w k ≡ false → remaining p (64 - k) (drop (k * 12) w) ≡ []
  rest_none e = not_used w k e no_rest unused_rest
