-- "A refusal gives its number and two zeros and alters no table or buffer": of a run, and of previews. 21, 22, 37 and 23 refuse a run; no other
-- reason for which it stops does.
-- Assumes nothing.
use mathlib.Core.Path.{◌≡◌, refl, ap}
use mathlib.Core.Bool.{Bool, true, false, ◌||◌}
use mathlib.Core.List.{List}
use Prim.Native.Nat.{ℕ, zero, suc, ◌+◌, ◌≤◌}
use native.Mathlib.Omega.{arith}
use lib.Dec.{eqb, ltb}
use lib.ListN.{length, drop}
use borrow.Author.Tests.{ne_eqb}
use Rattle.requests.proofs.Basics.{cond_elim, clash}
use Rattle.players.specs.declared.Step.{Step}
use Rattle.players.specs.Replies.{first_refusal, refusal}
use Rattle.players.specs.Rules.{State, step}
use Rattle.players.specs.Table.{state_of, valid}
use Rattle.players.specs.Calls.{Done, whole}
use Rattle.players.proofs.Refusals.{step_keeps}
use Rattle.session.specs.Decoded.{Decoded, Record, Refused}
use Rattle.session.specs.Records.{cut_short, wrong_fields, decode}
use Rattle.session.specs.Mark.{marked, mark}
use Rattle.session.specs.Runs.{report, Run, at_end, spent, stopped, took, on_record, run_from, allowed, longest, too_long, no_mark, preview_budget, whole_places}
use Rattle.session.proofs.Refusals.{Numbered, decode_numbered}
use Rattle.steps.specs.RunCalls.{Finished, finished, ran}
use Rattle.steps.specs.Previews.{previewed, run_preview, previewed_run}

-- "For a run: 21, 22, 37, 23"
abbrev pub refuses_run : ℕ → Bool
refuses_run n = eqb n 21 || (eqb n 22 || (eqb n too_long || eqb n no_mark))

-- ---- a run that is not refused stops for another reason

abbrev GoesOn : Run → Type 0
GoesOn r = refuses_run r.report.why ≡ false

no_refusal : (n : ℕ) → (cut_short ≤ n) × (n ≤ wrong_fields) → refuses_run n ≡ false
no_refusal n h = rw (ne_eqb n 21 (λ e. omega arith), ne_eqb n 22 (λ e. omega arith), ne_eqb n too_long (λ e. omega arith), ne_eqb n no_mark (λ e. omega arith))

next : (left place : ℕ) (s : State) (d : Decoded) (part : List ℕ) → Numbered d
    → ((s' : State) (place' : ℕ) (part' : List ℕ) → GoesOn (run_from left s' place' part'))
    → GoesOn (on_record d (λ x n. took (step s x).reply (run_from left (step s x).state (place + n) (drop n part))) (λ n. stopped n place s))
next left place s (Record x n) part k h = h (step s x).state (place + n) (drop n part)
next left place s (Refused n) part k h = no_refusal n k

goes_on : (left : ℕ) (s : State) (place : ℕ) (part : List ℕ) → GoesOn (run_from left s place part)
unfolding run_from
goes_on zero s place part = cond_elim (λ (n : ℕ). refuses_run n ≡ false) (eqb (length part) 0) at_end spent (λ _. refl) (λ _. refl)
goes_on (suc left) s place part =
    cond_elim GoesOn (eqb (length part) 0) _ _ (λ _. refl) (λ _. next left place s (decode part) part (decode_numbered part) (goes_on left))

-- ---- a refused run reports its number and two zeros, and leaves list and tables

pub record Keeps (list st t : List ℕ) (d : Finished) : Type 0 where
  pub kept : refuses_run d.report.why ≡ true → d ≡ finished (report d.report.why 0 0) list st t

pub run_keeps : (st t session : List ℕ) (budget : ℕ) (list : List ℕ) → Keeps list st t (ran st t session budget list)
run_keeps st t session budget list =
    let P = Keeps list st t in
    cond_elim P (whole st t) _ _ (λ _.
    cond_elim P (valid st t) _ _ (λ _.
    cond_elim P (ltb longest (length session)) _ _ (λ _. record { kept = λ h. refl }) (λ _.
    cond_elim P (marked session) _ _ (λ _. record { kept = λ h. absurd (clash h (goes_on (allowed budget (whole_places list)) (state_of st t) (length mark) (drop (length mark) session))) }) (λ _. record { kept = λ h. refl }))) (λ _. record { kept = λ h. refl })) (λ _. record { kept = λ h. refl })

-- ---- a refused preview gives its number and two zeros, and leaves the list

pub preview_keeps : (x : Step) (st t : List ℕ) → first_refusal ≤ (previewed x st t).code → previewed x st t ≡ refusal (previewed x st t).code
preview_keeps x st t h = ap (λ (d : Done). d.reply) ((step_keeps x st t).kept h)

pub run_preview_keeps : (st t session : List ℕ) (budget : ℕ) (list : List ℕ) → let p = previewed_run st t session budget list in
    refuses_run p.report.why ≡ true → p ≡ run_preview (report p.report.why 0 0) list
run_preview_keeps st t session budget list h =
    ap (λ (d : Finished). run_preview d.report d.list) ((run_keeps st t session (preview_budget budget) list).kept h)
