-- A pass over the places of a region: the requests from place k on, a case for each way that a turn goes.
-- Assumes nothing.
use mathlib.Core.Path.{◌≡◌, refl, sym, ap, ◌∙◌}
use mathlib.Core.Logic.{⊎_elim}
use mathlib.Core.Bool.{Bool, true, false, cond, not, ◌&&◌}
use Rattle.std.specs.Prelude.{Option}
use mathlib.Core.List.{List, [], ◌∷◌}
use Prim.Native.Nat.{ℕ, suc, ◌+◌, ◌-◌, ◌*◌, ◌≤◌, ◌<◌}
use native.Mathlib.Nat.{add-zero, zero-add}
use native.Mathlib.Omega.{arith}
use lib.ListN.{length, get_or, drop}
use lib.Seq.{get_or-drop, drop-drop}
use lib.Dec.{ltb, eqb}
use borrow.Author.Tests.{eq-eqb, ne_eqb, eqb-true, eqb-false, ltb-true, ltb-false, not-true, not-false}
use Rattle.requests.specs.declared.Request.{Request}
use Rattle.requests.specs.declared.Fit.{Fit}
use Rattle.requests.specs.declared.Found.{Found}
use Rattle.requests.specs.Model.{serial_is, fits, find}
use Rattle.requests.specs.Region.{request_at, requests_from, requests_of, words_of}
use Rattle.requests.specs.Answers.{gives, refused, no_such_request}
use Rattle.requests.specs.Calls.{At, Nowhere, found_from, found, numbers, ahead, Finds}
use Rattle.requests.proofs.Basics.{decide, both_left, both_right}

-- the requests from place k on
abbrev pub from : List ℕ → ℕ → List Request
from w k = requests_from (64 - k) (drop (k * 12) w)

module _ (w : List ℕ) where
  pub from_start : length w ≡ 768 → from w 0 ≡ requests_of w
  unfolding requests_of
  from_start h = rw (eq-eqb (length w) 768 h)

  module _ (k : ℕ) where
    pub first_word : get_or (drop (k * 12) w) 0 0 ≡ get_or w (k * 12) 0
    first_word = get_or-drop (k * 12) w 0 0 ∙ ap (λ (i : ℕ). get_or w i 0) (add-zero (k * 12))

    pub next_place : drop ((k + 1) * 12) w ≡ drop 12 (drop (k * 12) w)
    next_place =
        let x : (k + 1) * 12 ≡ k * 12 + 12 = omega arith in
        rw (x, drop-drop)

    pub from_end : 64 ≤ k → from w k ≡ []
    unfolding requests_from
    from_end h =
        let x : 64 - k ≡ 0 = omega arith in
        ap (λ (j : ℕ). requests_from j (drop (k * 12) w)) x

    module _ (h : k < 64) where
      one : 64 - k ≡ suc (64 - (k + 1))
      one = omega arith

      pub from_unused : get_or w (k * 12) 0 ≡ 0 → from w k ≡ []
      unfolding requests_from
      from_unused z = ap (λ (j : ℕ). requests_from j (drop (k * 12) w)) one ∙ rw (first_word, eq-eqb (get_or w (k * 12) 0) 0 z)

      pub from_used : (get_or w (k * 12) 0 ≡ 0 → ⊥) → from w k ≡ request_at w k ∷ from w (k + 1)
      unfolding requests_from
      from_used z = ap (λ (j : ℕ). requests_from j (drop (k * 12) w)) one ∙ rw (first_word, ne_eqb (get_or w (k * 12) 0) 0 z, next_place)

    -- the test of a place: it is used, or it is not used or past the last
    abbrev pub place_used : Bool
    place_used = ltb k 64 && not (eqb (get_or w (k * 12) 0) 0)

    pub is_used : place_used ≡ true → (k < 64) × (get_or w (k * 12) 0 ≡ 0 → ⊥)
    is_used e =
        (ltb-true k 64 (both_left (ltb k 64) _ e), eqb-false (get_or w (k * 12) 0) 0 (not-true (eqb (get_or w (k * 12) 0) 0) (both_right (ltb k 64) _ e)))

    pub not_used : {C : Type 0} → place_used ≡ false → (64 ≤ k → C) → (k < 64 → get_or w (k * 12) 0 ≡ 0 → C) → C
    not_used e past unused =
        ⊎_elim
        (λ h. unused (ltb-true k 64 h) (eqb-true (get_or w (k * 12) 0) 0 (not-false (eqb (get_or w (k * 12) 0) 0) (rw h at e))))
        (λ h. past (ltb-false k 64 h))
        (decide (ltb k 64))

    pub from_none : place_used ≡ false → from w k ≡ []
    from_none e = not_used e from_end from_unused

-- ---- a search

-- the numbers where the serial stands, if the request fits
numbers_here : (k : ℕ) (r : Request) (b : Bool) → numbers (cond b (At k r) Nowhere) ≡ cond b (gives ((k + 0) ∷ words_of r)) (refused no_such_request)
numbers_here k r true = ap (λ (j : ℕ). gives (j ∷ words_of r)) (sym (add-zero k))
numbers_here k r false = refl

-- the numbers of a search among requests the first of which is at place k
numbers-from : (f : Fit) (n k : ℕ) (rs : List Request) → numbers (found_from f n k rs) ≡ find (serial_is n) rs (refused no_such_request) (λ r. cond (fits f r) (gives ((k + ahead (serial_is n) rs) ∷ words_of r)) (refused no_such_request))
unfolding found_from
numbers-from f n k [] = refl
numbers-from f n k (r ∷ rs) =
    ⊎_elim
    (λ t. rw t (numbers_here k r (fits f r)))
    (λ t.
    let x : k + 1 + ahead (serial_is n) rs ≡ k + (ahead (serial_is n) rs + 1) = omega arith in
    rw t (numbers-from f n (k + 1) rs ∙ rw x))
    (decide (serial_is n r))

pub finds : (f : Fit) (n : ℕ) (w : List ℕ) (r : Option Found) → r ≡ found f n w → Finds f n w r
finds f n w r e = record { answer = e; numbered = ap numbers e ∙ numbers-from f n 0 (requests_of w) ∙ rw zero-add }

-- the answer in its case; the fit is given, so that a search for another is refused without computing either
pub found_as : (f : Fit) {n : ℕ} {w : List ℕ} {a r : Option Found} → Finds f n w a → r ≡ a → r ≡ found f n w
found_as f x e = e ∙ x.answer
