-- The kinds by their numbers: which number names which kind, and that those are the numbers in force.
-- Assumes nothing.
use mathlib.Core.Path.{◌≡◌, refl, sym}
use mathlib.Core.Logic.{⊎_elim}
use mathlib.Core.Bool.{Bool, true, false}
use Prim.Native.Nat.{ℕ, ◌<◌}
use native.Mathlib.Omega.{arith}
use lib.Dec.{eqb}
use borrow.Author.Tests.{eqb-true, eqb-false}
use Rattle.std.specs.Prelude.{Result, Ok, Err, ◌==◌, if◌then◌else◌}
use Rattle.requests.proofs.Basics.{decide}
use Rattle.store.specs.declared.refusal.Refusal.{Refusal}
use Rattle.store.specs.declared.refusal.Refusal.TheVariants.{UnknownKind}
use Rattle.players.specs.Kinds.{map_of, in_force}
use Rattle.players.proofs.KindLaws.{no_map, none_above}
use Rattle.session.specs.declared.kinds.Kind.{Kind}
use Rattle.session.specs.declared.kinds.Kind.TheVariants.{Assign, Release, RequestGuard, Read, Write, Deliver, Respond, Abandon, Lose, Split, Merge, RestartTablet, RestartPlayer, FindInterval, Load}
use Rattle.session.specs.Kinds.{code_of, kind_of}

-- each kind is in force
pub code_in_force : (k : Kind) → in_force (code_of k) ≡ true
unfolding map_of
code_in_force Assign = refl
code_in_force Release = refl
code_in_force RequestGuard = refl
code_in_force Read = refl
code_in_force Write = refl
code_in_force Deliver = refl
code_in_force Respond = refl
code_in_force Abandon = refl
code_in_force Lose = refl
code_in_force Split = refl
code_in_force Merge = refl
code_in_force RestartTablet = refl
code_in_force RestartPlayer = refl
code_in_force FindInterval = refl
code_in_force Load = refl

-- what a number names: a kind that has it, or it is none in force
pub record Named (n : ℕ) (r : Result Kind Refusal) : Type 0 where
  pub known : (k : Kind) → r ≡ Ok k → code_of k ≡ n
  pub unknown : (e : Refusal) → r ≡ Err e → (e ≡ UnknownKind) × (in_force n ≡ false)

module _ (n : ℕ) where
  next : (k : Kind) (r : Result Kind Refusal) → ((n ≡ code_of k → ⊥) → Named n r) → Named n (if n == code_of k then Ok k else r)
  next k r rest = by (eqb n (code_of k)) refl
    where
      by : (b : Bool) → eqb n (code_of k) ≡ b → Named n (if b then Ok k else r)
      by true t = record { known = λ j e. let h : k ≡ j = cc in rw (← h) (sym (eqb-true n (code_of k) t)); unknown = λ e h. cc }
      by false t = rest (eqb-false n (code_of k) t)

  none : in_force n ≡ false → Named n (Err UnknownKind)
  none h = record { known = λ k e. cc; unknown = λ e q. (cc, h) }

other : (n : ℕ) → (n ≡ 0 → ⊥) → 15 < n → in_force n ≡ false
other n z h = no_map n (none_above n h)

pub named : (n : ℕ) → Named n (kind_of n)
unfolding map_of
named n =
    next n Assign _ (λ a1. next n Release _ (λ a2. next n RequestGuard _ (λ a3. next n Read _ (λ a4. next n Write _ (λ a5.
    next n Deliver _ (λ a6. next n Respond _ (λ a7. next n Abandon _ (λ a8. next n Lose _ (λ a9. next n Split _ (λ a10.
    next n Merge _ (λ a11. next n RestartTablet _ (λ a12. next n RestartPlayer _ (λ a13. next n FindInterval _ (λ a14. next n Load _ (λ a15.
    none n (last a1 a2 a3 a4 a5 a6 a7 a8 a9 a10 a11 a12 a13 a14 a15))))))))))))))))
  where
    last : (n ≡ 1 → ⊥) → (n ≡ 2 → ⊥) → (n ≡ 3 → ⊥) → (n ≡ 4 → ⊥) → (n ≡ 5 → ⊥) → (n ≡ 6 → ⊥) → (n ≡ 7 → ⊥) → (n ≡ 8 → ⊥) → (n ≡ 9 → ⊥) → (n ≡ 10 → ⊥)
        → (n ≡ 11 → ⊥) → (n ≡ 12 → ⊥) → (n ≡ 13 → ⊥) → (n ≡ 14 → ⊥) → (n ≡ 15 → ⊥) → in_force n ≡ false
    last a1 a2 a3 a4 a5 a6 a7 a8 a9 a10 a11 a12 a13 a14 a15 =
        ⊎_elim (λ t. rw (eqb-true n 0 t)) (λ t. let z = eqb-false n 0 t in no_map n (none_above n (omega arith))) (decide (eqb n 0))
