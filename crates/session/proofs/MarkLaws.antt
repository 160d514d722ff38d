-- A list that begins with some bytes.
-- Assumes nothing.
use mathlib.Core.Path.{◌≡◌, refl, sym, ap}
use mathlib.Core.Bool.{Bool, true, false, ◌&&◌}
use mathlib.Core.List.{List, [], ◌∷◌, ◌++◌}
use Prim.Native.Nat.{ℕ}
use native.Mathlib.Omega.{arith}
use lib.Dec.{eqb}
use lib.ListN.{length, take}
use borrow.Author.Tests.{eqb-true, eqb-false, eq-eqb, ne_eqb}
use Rattle.std.specs.Prelude.{nat_eq}
use Rattle.std.specs.List.{starts_with}
use Rattle.session.specs.Mark.{begins}

both_true : (a b : Bool) → (a && b) ≡ true → (a ≡ true) × (b ≡ true)
both_true true b e = (refl, e)
both_true false b e = absurd (let z : ◌≡◌ {A = ℕ} 0 1 = cc in omega arith)

-- what it begins with
pub begins-take : (bs s : List ℕ) → begins bs s ≡ true → take (length bs) s ≡ bs
unfolding begins
begins-take [] s e = refl
begins-take (b ∷ bs) [] e = absurd (let z : ◌≡◌ {A = ℕ} 0 1 = cc in omega arith)
begins-take (b ∷ bs) (c ∷ s) e =
    let h = both_true (eqb c b) (begins bs s) e in
    rw (eqb-true c b h.0) (ap (λ (l : List ℕ). b ∷ l) (begins-take bs s h.1))

pub begins-append : (bs s : List ℕ) → begins bs (bs ++ s) ≡ true
unfolding begins
begins-append [] s = refl
begins-append (b ∷ bs) s = rw (eq-eqb b b refl) (begins-append bs s)

-- the library's test
eqb_swap : (a b : ℕ) → eqb a b ≡ eqb b a
eqb_swap a b = by (eqb a b) refl
  where
    by : (t : Bool) → eqb a b ≡ t → t ≡ eqb b a
    by true e = sym (eq-eqb b a (sym (eqb-true a b e)))
    by false e = sym (ne_eqb b a (λ z. eqb-false a b e (sym z)))

pub begins-starts_with : (bs s : List ℕ) → starts_with nat_eq s bs ≡ begins bs s
unfolding begins
begins-starts_with [] s = refl
begins-starts_with (b ∷ bs) [] = refl
begins-starts_with (b ∷ bs) (c ∷ s) = rw (eqb_swap b c, begins-starts_with bs s)
