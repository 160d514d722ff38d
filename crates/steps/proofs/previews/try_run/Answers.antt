-- `steps::previews::try_run` meets its contract.
-- Assumes nothing.
use Rattle.session.specs.Reports.{reported}
use Rattle.steps.proofs.PreviewLaws.{run_copied}
use Rattle.steps.proofs.previews.try_run.Goals as goal

pub returns : goal.returns
returns c =
    let a = c.args in
    run_copied a.store.now a.players.now a.session.now a.budget a.replies.now (reported c.run.result) _ _ _ _ c.counted.ensures c.run.ensures
