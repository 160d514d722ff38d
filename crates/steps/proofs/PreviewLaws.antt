-- A step or a run on copies of the tables gives what it would give on them.
-- Assumes nothing.
use mathlib.Core.Path.{◌≡◌, ◌∙◌, ap}
use mathlib.Core.Bool.{false}
use mathlib.Core.List.{List}
use Prim.Native.Nat.{ℕ}
use Rattle.store.specs.declared.Reply.{Reply}
use Rattle.players.specs.declared.Step.{Step}
use Rattle.players.specs.Replies.{refusal}
use Rattle.players.specs.Calls.{Done, left, whole}
use Rattle.players.specs.Played.{taken}
use Rattle.session.specs.Reports.{Report}
use Rattle.session.specs.Runs.{report, preview_budget}
use Rattle.steps.specs.RunCalls.{Finished, finished, ran}
use Rattle.steps.specs.Previews.{previewed, RunPreview, run_preview, previewed_run}

module _ (st t : List ℕ) where
  module _ (x : Step) (r : Reply) where
    pub step_wrong : whole st t ≡ false → r ≡ refusal 21 → r ≡ previewed x st t
    step_wrong h e = e ∙ rw (h, previewed)

    pub step_copied : (st' t' : List ℕ) → left r st' t' ≡ taken x st t → r ≡ previewed x st t
    step_copied st' t' e = ap (λ (d : Done). d.reply) e

  module _ (session : List ℕ) (budget : ℕ) (list : List ℕ) (r : Report) where
    pub run_wrong : whole st t ≡ false → r ≡ report 21 0 0 → run_preview r list ≡ previewed_run st t session budget list
    run_wrong h e = rw (e, h)

    pub run_copied : (n : ℕ) (list' st' t' : List ℕ) → n ≡ preview_budget budget → finished r list' st' t' ≡ ran st t session n list
        → run_preview r list' ≡ previewed_run st t session budget list
    run_copied n list' st' t' few e =
        let told : Finished → RunPreview = λ d. run_preview d.report d.list in
        ap told e ∙ ap (λ (k : ℕ). told (ran st t session k list)) few
