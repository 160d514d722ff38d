-- Tests of every entry of a range.
-- Assumes nothing.
use mathlib.Core.Path.{◌≡◌, refl, ap}
use mathlib.Core.Bool.{Bool, true, ◌&&◌}
use Prim.Native.Nat.{ℕ, zero, suc, ◌+◌, ◌-◌, ◌≤◌, ◌<◌}
use native.Mathlib.Omega.{arith}
use borrow.Author.Tests.{eqb-true, eq-eqb, leb-true, ltb-true}
use lib.Dec.{leb, ltb, eqb}
use Rattle.store.specs.Model.{Store, within, unbroken, one_tablet}
use Rattle.store.specs.declared.Range.{Range}
use Rattle.players.specs.Rules.{every, all_entries}
use Rattle.players.proofs.StepFacts.{every_at}
use Rattle.linearizable.proofs.Tests.{and_left, and_right, and-true, within-true}

every_all : (lo n : ℕ) (f : ℕ → Bool) → ((e : ℕ) → lo ≤ e → e < lo + n → f e ≡ true) → every lo n f ≡ true
every_all lo zero f h = refl
every_all lo (suc n) f h = and-true (f lo) (every (suc lo) n f) (h lo (omega arith) (omega arith)) (every_all (suc lo) n f (λ e a b. h e (omega arith) (omega arith)))

unbroken-every : (f : ℕ → ℕ) (lo n : ℕ) → unbroken f lo n ≡ every lo n (λ e. eqb (f e) 0)
unfolding unbroken
unbroken-every f lo zero = refl
unbroken-every f lo (suc n) = ap (λ b. eqb (f lo) 0 && b) (unbroken-every f (suc lo) n)

module _ (g : Range) where
  abbrev pub InRange : ℕ → Type 0
  InRange e = within g.low g.high e ≡ true

  pub from_low : (e : ℕ) → InRange e → g.low ≤ e
  from_low e w = leb-true g.low e (and_left (leb g.low e) (ltb e g.high) w)

  pub below_high : (e : ℕ) → InRange e → e < g.high
  below_high e w = ltb-true e g.high (and_right (leb g.low e) (ltb e g.high) w)

  -- a test of all entries, and of each
  pub entries_all : (f : ℕ → Bool) → ((e : ℕ) → InRange e → f e ≡ true) → all_entries f g.low g.high ≡ true
  entries_all f h = every_all g.low (g.high - g.low) f (λ e a b. h e (within-true g.low g.high e a (omega arith)))

  pub entries_at : (f : ℕ → Bool) → all_entries f g.low g.high ≡ true → (e : ℕ) → InRange e → f e ≡ true
  entries_at f h e w =
      let a = from_low e w in
      let b = below_high e w in
      every_at g.low (g.high - g.low) f e h a (omega arith)

  -- no boundary inside
  abbrev pub Undivided : Store → Type 0
  Undivided st = (e : ℕ) → g.low < e → e < g.high → st.boundary e ≡ 0

  pub undivided_one : (st : Store) → Undivided st → one_tablet st g.low g.high ≡ true
  undivided_one st h =
      rw (unbroken-every st.boundary (g.low + 1) (g.high - (g.low + 1)))
      (every_all (g.low + 1) (g.high - (g.low + 1)) (λ e. eqb (st.boundary e) 0) (λ e a b. eq-eqb (st.boundary e) 0 (h e (omega arith) (omega arith))))

  pub one_undivided : (st : Store) → one_tablet st g.low g.high ≡ true → Undivided st
  one_undivided st h e a b =
      eqb-true (st.boundary e) 0
      (every_at (g.low + 1) (g.high - (g.low + 1)) (λ x. eqb (st.boundary x) 0) e (rw (unbroken-every st.boundary (g.low + 1) (g.high - (g.low + 1))) at h) (omega arith) (omega arith))
