-- Demand 1: "A refusal gives its number and two zeros and alters no table": of a step, and of making tables fresh, on any two tables; of the share of
-- reads from memory, to which the tables are lent for reading only. Refusals are the codes from `first_refusal` on.
-- Assumes nothing.
use mathlib.Core.Path.{◌≡◌, refl, ap, ◌∙◌}
use mathlib.Core.Bool.{Bool, true, false, cond}
use mathlib.Core.List.{List}
use Prim.Native.Nat.{ℕ, ◌≤◌}
use native.Mathlib.Omega.{arith}
use lib.Dec.{leb, eqb}
use Rattle.store.specs.declared.Reply.{Reply}
use Rattle.requests.proofs.Basics.{cond_elim}
use Rattle.counters.specs.declared.Counts.{Counts}
use Rattle.counters.specs.Model.{share}
use Rattle.players.specs.declared.Step.{Step}
use Rattle.players.specs.Replies.{first_refusal, refusal, done}
use Rattle.players.specs.Rules.{players, step, fresh}
use Rattle.players.specs.Table.{state_of, valid}
use Rattle.players.specs.Calls.{Done, left, encoded, whole, made_fresh, shared}
use Rattle.players.specs.Played.{taken}
use Rattle.players.proofs.CallLaws.{same_tables}
use Rattle.players.proofs.StepCases.{step_stays}

-- on any words: a refusal leaves both tables
pub record Keeps (st t : List ℕ) (d : Done) : Type 0 where
  pub kept : first_refusal ≤ d.reply.code → d ≡ left (refusal d.reply.code) st t

pub step_keeps : (x : Step) (st t : List ℕ) → Keeps st t (taken x st t)
step_keeps x st t = by (whole st t) (valid st t) refl refl
  where
    d : Done
    d = encoded (step (state_of st t) x)

    by : (w v : Bool) → whole st t ≡ w → valid st t ≡ v → Keeps st t (cond w (cond v d (left (refusal 22) st t)) (left (refusal 21) st t))
    by true true ew ev =
        record { kept = λ h. ap encoded (step_stays (state_of st t) x h) ∙ same_tables st t ew (rw ev tt) (refusal d.reply.code) }
    by true false ew ev = record { kept = λ h. refl }
    by false v ew ev = record { kept = λ h. refl }

pub fresh_keeps : (st t : List ℕ) → Keeps st t (made_fresh st t)
fresh_keeps st t = by (whole st t)
  where
    by : (w : Bool) → Keeps st t (cond w (encoded (record { state = fresh; reply = done })) (left (refusal 21) st t))
    by true = record { kept = λ h. absurd (omega arith) }
    by false = record { kept = λ h. refl }

-- ---- the share of reads from memory

-- a refusal is its number and two zeros
abbrev Numbered : Reply → Type 0
Numbered r = first_refusal ≤ r.code → r ≡ refusal r.code

share_numbered : (c : Counts) → Numbered (share c)
unfolding share
share_numbered c = cond_elim Numbered (eqb c.answered 0) _ _ (λ _ _. refl) (λ _ h. absurd (omega (arith, h)))

pub shared_numbered : (p : ℕ) (st t : List ℕ) → Numbered (shared p st t)
shared_numbered p st t =
    cond_elim Numbered (whole st t) _ _
    (λ _. cond_elim Numbered (valid st t) _ _ (λ _. cond_elim Numbered (leb players p) _ _ (λ _ _. refl) (λ _. share_numbered ((state_of st t).counters p))) (λ _ _. refl))
    (λ _ _. refl)
