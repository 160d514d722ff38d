-- `steps::previews::try_step` meets its contract.
-- Assumes nothing.
use Rattle.steps.specs.Answers.{answered}
use Rattle.steps.proofs.PreviewLaws.{step_copied}
use Rattle.steps.proofs.previews.try_step.Goals as goal

pub returns : goal.returns
returns c =
    let a = c.args in
    step_copied a.store.now a.players.now a.next (answered c.step.result) _ _ c.step.ensures
