-- What follows a preview, on the tables that it was given and did not alter: whatever keeps the promise of the step or the run gives what the
-- preview gave, and so does a second preview.
-- Assumes nothing.
use mathlib.Core.Path.{◌≡◌, ◌∙◌, refl, sym, ap}
use mathlib.Core.Bool.{Bool, true, false, cond}
use mathlib.Core.List.{List, ◌++◌}
use Prim.Native.Nat.{ℕ, ◌*◌, ◌/◌, ◌≤◌}
use native.Mathlib.Omega.{arith}
use lib.Dec.{ltb}
use lib.ListN.{length, drop, length-append, length-drop}
use lib.Seq.{drop_at}
use borrow.Author.Tests.{le-ltb}
use Rattle.store.specs.declared.Reply.{Reply}
use Rattle.players.specs.declared.Step.{Step}
use Rattle.players.specs.Table.{state_of, valid}
use Rattle.players.specs.Calls.{Done, left, whole}
use Rattle.players.specs.Played.{taken}
use Rattle.session.specs.Reports.{Report}
use Rattle.session.specs.Mark.{mark, marked}
use Rattle.session.specs.Runs.{report, Run, allowed, run_marked, longest, too_long, no_mark, preview_records, preview_budget, whole_places, words, filled}
use Rattle.steps.specs.RunCalls.{Finished, finished, encoded, ran}
use Rattle.steps.specs.Previews.{previewed, RunPreview, run_preview, previewed_run}
use Rattle.steps.proofs.LoopLaws.{length_words}
use Rattle.steps.proofs.RanLaws.{allowed_few}
use Rattle.steps.proofs.FreshRuns.{counted_from}

-- ---- a step

-- "gives that reply": the step taken afterwards
pub step_follows : (x : Step) (st t : List ℕ) (r : Reply) → r ≡ previewed x st t → (r' : Reply) (st' t' : List ℕ) → left r' st' t' ≡ taken x st t → r' ≡ r
step_follows x st t r e r' st' t' f = ap (λ (d : Done). d.reply) f ∙ sym e

-- a second preview
pub preview_follows : (x : Step) (st t : List ℕ) (r : Reply) → r ≡ previewed x st t → (r' : Reply) → r' ≡ previewed x st t → r' ≡ r
preview_follows x st t r e r' f = f ∙ sym e

-- ---- a run into a list that holds its replies already

filled_again : (list : List ℕ) (rs : List Reply) → filled (filled list rs) rs ≡ filled list rs
filled_again list rs = ap (λ (l : List ℕ). words rs ++ l) (drop_at (words rs) (drop (3 * length rs) list) (3 * length rs) (length_words rs))

places_filled : (list : List ℕ) (rs : List Reply) → length rs ≤ whole_places list → whole_places (filled list rs) ≡ whole_places list
places_filled list rs h =
    let l : length (filled list rs) ≡ length list = length-append (words rs) (drop (3 * length rs) list) ∙ rw (length_words rs, length-drop) (omega arith) in
    ap (λ (n : ℕ). n / 3) l

-- it gives the same report, list and tables
pub ran_again : (st t session : List ℕ) (budget : ℕ) (list : List ℕ) → ran st t session budget (ran st t session budget list).list ≡ ran st t session budget list
ran_again st t session budget list = by (whole st t) (valid st t) (ltb longest (length session)) (marked session)
  where
    refused : ℕ → List ℕ → Finished
    refused n l = finished (report n 0 0) l st t

    going : List ℕ → Run
    going l = run_marked (state_of st t) session budget (whole_places l)

    call : Bool → Bool → Bool → Bool → List ℕ → Finished
    call w v a m l = cond w (cond v (cond a (refused too_long l) (cond m (encoded l (going l)) (refused no_mark l))) (refused 22 l)) (refused 21 l)

    taken_again : encoded (filled list (going list).replies) (going (filled list (going list).replies)) ≡ encoded list (going list)
    taken_again =
        let n = allowed budget (whole_places list) in
        let few = (counted_from n (state_of st t) (length mark) (drop (length mark) session)).few in
        let rs = (going list).replies in
        ap (λ (k : ℕ). encoded (filled list rs) (run_marked (state_of st t) session budget k)) (places_filled list rs (omega (arith, few, (allowed_few budget (whole_places list)).1)))
        ∙ rw filled_again

    by : (w v a m : Bool) → call w v a m (call w v a m list).list ≡ call w v a m list
    by true true true m = refl
    by true true false true = taken_again
    by true true false false = refl
    by true false a m = refl
    by false v a m = refl

-- ---- a run with the budget of its preview, into any list that is as the preview found it, or as it left it

module _ (st t session : List ℕ) (budget : ℕ) (list : List ℕ) (r : Report) (list₁ : List ℕ) (e : run_preview r list₁ ≡ previewed_run st t session budget list) where
  same_list : list₁ ≡ (ran st t session (preview_budget budget) list).list
  same_list = ap (λ (p : RunPreview). p.list) e

  same_report : r ≡ (ran st t session (preview_budget budget) list).report
  same_report = ap (λ (p : RunPreview). p.report) e

  module _ (r' : Report) (list' st' t' : List ℕ) where
    pub run_follows : finished r' list' st' t' ≡ ran st t session (preview_budget budget) list → (r' ≡ r) × (list' ≡ list₁)
    run_follows f = (ap (λ (d : Finished). d.report) f ∙ sym same_report, ap (λ (d : Finished). d.list) f ∙ sym same_list)

    pub run_follows_on : finished r' list' st' t' ≡ ran st t session (preview_budget budget) list₁ → (r' ≡ r) × (list' ≡ list₁)
    run_follows_on f =
        run_follows (f ∙ ap (λ (l : List ℕ). ran st t session (preview_budget budget) l) same_list ∙ ran_again st t session (preview_budget budget) list)

  -- a second preview
  pub run_preview_follows : (p : RunPreview) → p ≡ previewed_run st t session budget list₁ → p ≡ run_preview r list₁
  run_preview_follows p f =
      f
      ∙ ap (λ (l : List ℕ). previewed_run st t session budget l) same_list
      ∙ ap (λ (d : Finished). run_preview d.report d.list) (ran_again st t session (preview_budget budget) list)
      ∙ sym e

-- a budget of at most 16 is that of its preview
pub few_previewed : (budget : ℕ) → budget ≤ preview_records → preview_budget budget ≡ budget
few_previewed budget h = rw (le-ltb preview_records budget h)
