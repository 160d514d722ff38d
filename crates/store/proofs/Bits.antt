-- Bits gathered from several words, each of which tells something by having bits or none.
-- Assumes nothing.
use mathlib.Core.Path.{◌≡◌, sym, ◌∙◌}
use mathlib.Core.Logic.{⊎_elim}
use mathlib.Core.Bool.{◌&&◌}
use Prim.Native.Nat.{ℕ, ◌<◌}
use native.Mathlib.Omega.{arith}
use lib.Dec.{leb, eqb}
use lib.Bits.{bit_or, or_zero_l, or_add_and, and_le_r}
use borrow.Author.Tests.{lt-leb, eqb-true, eqb-false, ne_eqb}
use Rattle.store.specs.Table.{above}
use Rattle.store.proofs.Bools.{decide}

-- no bit stands in two words together just where none stands in either
pub none_gathered : (a b : ℕ) → eqb (bit_or a b) 0 ≡ (eqb a 0 && eqb b 0)
none_gathered a b =
    ⊎_elim
    (λ h. rw (h, eqb-true a 0 h, or_zero_l b))
    (λ h. ne_eqb (bit_or a b) 0 (λ z. eqb-false a 0 h (omega (arith, or_add_and a b, and_le_r a b))) ∙ rw h)
    (decide (eqb a 0))

-- no bit tells that a word is above n just where it is not
pub above_none : (n x : ℕ) → eqb (above n x) 0 ≡ leb x n
unfolding above
above_none n x = ⊎_elim (λ h. rw h) (λ h. rw h) (decide (leb x n))

pub at_most_zero : (x : ℕ) → leb x 0 ≡ eqb x 0
at_most_zero x = ⊎_elim (λ t. rw (t, eqb-true x 0 t)) (λ t. lt-leb x 0 (positive x (eqb-false x 0 t)) ∙ sym t) (decide (eqb x 0))
  where
    positive : (x : ℕ) → (x ≡ 0 → ⊥) → 0 < x
    positive x h = omega (arith, h)
