-- Laws of guards: what matches the two that are no serial, and the rule of a guard, which is open, a serial that was issued, or barred.
-- Assumes nothing.
use mathlib.Core.Path.{◌≡◌}
use mathlib.Core.Logic.{⊎_elim}
use mathlib.Core.Bool.{Bool, true, false, ◌&&◌, ◌||◌}
use mathlib.Core.List.{List, [], ◌∷◌}
use Prim.Native.Nat.{ℕ, zero, suc, ◌+◌, ◌≤◌, ◌<◌}
use native.Mathlib.Omega.{arith}
use lib.Dec.{T, leb, eqb}
use borrow.Author.Tests.{le-leb, leb-true, ne_eqb, eqb-true}
use Rattle.store.specs.Model.{serials, open_guard, barred, matches}
use Rattle.store.specs.Table.{listed, guard_holds}
use Rattle.store.proofs.Bools.{decide, is_true, and_both}

-- ‘Barred differs from 0 and from every serial’
pub barred_no_serial : serials < barred
barred_no_serial = omega arith

-- ‘guard 0 is open and matches a carried 0’, and nothing else
pub open_matches : (carried : ℕ) → matches carried open_guard ≡ eqb carried open_guard
open_matches c = ⊎_elim (λ h. let z = eqb-true c barred h in rw (h, ne_eqb c open_guard (omega arith))) (λ h. rw h) (decide (eqb c barred))

-- ‘barred, that matches nothing’
pub barred-matches_nothing : (carried : ℕ) → matches carried barred ≡ false
barred-matches_nothing c = ⊎_elim (λ h. rw h) (λ h. rw h) (decide (eqb c barred))

-- a serial that was issued
pub issued_holds : (n g : ℕ) → g ≤ n → T (guard_holds n g)
unfolding guard_holds
issued_holds n g h = rw (le-leb g n h) tt

pub barred_holds : (n : ℕ) → T (guard_holds n barred)
unfolding guard_holds
barred_holds n = second (leb barred n)
  where
    second : (b : Bool) → T (b || true)
    second true = tt
    second false = tt

-- a guard that keeps the rule is the one or the other
holds_cases : (n g : ℕ) {P : Type 0} → T (guard_holds n g) → (g ≤ n → P) → (g ≡ barred → P) → P
unfolding guard_holds
holds_cases n g t p q = ⊎_elim (λ h. p (leb-true g n h)) (λ h. q (eqb-true g barred (is_true _ (rw h at t)))) (decide (leb g n))

-- it is no greater than both together
pub holds_under : (n g : ℕ) → T (guard_holds n g) → g ≤ n + barred
holds_under n g t = holds_cases n g t (λ h. omega arith) (λ h. omega arith)

pub holds_later : (n m g : ℕ) → n ≤ m → T (guard_holds n g) → T (guard_holds m g)
holds_later n m g h t = holds_cases n g t (λ k. issued_holds m g (omega arith)) (λ k. rw k (barred_holds m))

-- the guards of a list, one for each entry
unfoldable pub guards_hold : ℕ → List ℕ → Bool
guards_hold n [] = true
guards_hold n (g ∷ gs) = guard_holds n g && guards_hold n gs

pub listed_hold : (n : ℕ) (f : ℕ → ℕ) (e k : ℕ) → ((x : ℕ) → T (guard_holds n (f x))) → T (guards_hold n (listed f e k))
unfolding listed guards_hold
listed_hold n f e zero h = tt
listed_hold n f e (suc k) h = and_both (guard_holds n (f e)) _ (h e) (listed_hold n f (suc e) k h)
