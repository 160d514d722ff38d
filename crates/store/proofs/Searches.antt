-- What a search of a list gives, in the code's words.
-- Assumes nothing.
use mathlib.Core.Path.{◌≡◌, refl, sym, ap, ◌∙◌}
use mathlib.Core.Logic.{⊎_elim}
use mathlib.Core.Bool.{Bool, true, false, cond, not, ◌||◌}
use mathlib.Core.List.{List, [], ◌∷◌}
use Prim.Native.Nat.{ℕ, ◌+◌, ◌-◌, ◌≤◌}
use native.Mathlib.Omega.{arith}
use lib.Dec.{ltb, eqb}
use lib.ListN.{length, get_or, drop, length-drop}
use lib.Seq.{get_or-drop}
use borrow.Author.Tests.{eqb-true, eqb-false, ltb-true, ltb-false, lt-ltb, le-ltb}
use Rattle.std.specs.Prelude.{Option, Some, None}
use Rattle.std.specs.List.{position_or_len}
use Rattle.std.specs.Option.{unwrap_or}
use Rattle.std.proofs.lemmas.List.Sums.{prefix_len-le-length, fails_before_first, passes_at_first}
use Rattle.store.specs.Inner.{Used}
use Rattle.store.specs.Words.{place}
use Rattle.store.proofs.Bools.{decide}

pub position_or_len_le : (p : ℕ → Bool) (xs : List ℕ) → position_or_len p xs ≤ length xs
position_or_len_le p xs = prefix_len-le-length (λ x. not (p x)) xs

-- what `position` found, or the length where it found nothing
pub unwrapped_position : (p : ℕ → Bool) (xs : List ℕ) (r : Option ℕ) (n : ℕ) → n ≡ length xs → r ≡ cond (ltb (position_or_len p xs) (length xs)) (Some (position_or_len p xs)) None → unwrap_or r n ≡ position_or_len p xs
unwrapped_position p xs r n l e =
    ⊎_elim (λ (w : ltb (position_or_len p xs) (length xs) ≡ true). rw (e, w) refl)
    (λ (w : ltb (position_or_len p xs) (length xs) ≡ false).
    let h = ltb-false _ _ w in
    rw (e, w) (omega (arith, position_or_len_le p xs, l)))
    (decide (ltb (position_or_len p xs) (length xs)))

-- the intervals that begin at or before an entry
pub place_is : (e : ℕ) (ss : List ℕ) → position_or_len (λ s. eqb s 0 || ltb e s) ss ≡ place (e + 1) ss
unfolding place
place_is e [] = refl
place_is e (s ∷ ss) =
    ⊎_elim (λ (w : eqb s 0 ≡ true). rw w refl)
    (λ (w : eqb s 0 ≡ false).
    ⊎_elim (λ (v : ltb e s ≡ true). let h = ltb-true e s v in rw (w, v, le-ltb s (e + 1) (omega arith)) refl)
    (λ (v : ltb e s ≡ false). let h = ltb-false e s v in rw (w, v, lt-ltb s (e + 1) (omega arith)) (omega (arith, place_is e ss)))
    (decide (ltb e s)))
    (decide (eqb s 0))

-- the places that are used: the first start of 0 after place 0 ends them
pub used_is : (ss : List ℕ) → length ss ≡ 256 → (r : ℕ) → r ≡ 1 + position_or_len (λ w. eqb w 0) (drop 1 ss) → Used ss r
used_is ss l r e =
    let d = length-drop 1 ss in
    let m = position_or_len_le (λ w. eqb w 0) (drop 1 ss) in
    record {
      some = omega arith;
      most = omega (arith, m, d);
      before = λ k h i z.
          let j : 1 + (k - 1) ≡ k = omega arith in
          eqb-false _ 0 (fails_before_first (λ w. eqb w 0) (drop 1 ss) (k - 1) 0 (omega arith)) (get_or-drop 1 ss (k - 1) 0 ∙ ap (λ (i : ℕ). get_or ss i 0) j ∙ z);
      end = λ h.
          let q = position_or_len (λ w. eqb w 0) (drop 1 ss) in
          ap (λ (i : ℕ). get_or ss i 0) e ∙ sym (get_or-drop 1 ss q 0) ∙ eqb-true _ 0 (passes_at_first (λ w. eqb w 0) (drop 1 ss) 0 (omega (arith, d)));
    }
