-- `steps::store_steps::settle` meets its contract.
-- Assumes nothing.
use Rattle.steps.proofs.StoreStepLaws.{settle_removed, settle_delivered}
use Rattle.steps.proofs.store_steps.settle.Goals as goal

pub returns-then-abandoned : goal.returns-then-abandoned
returns-then-abandoned c =
    let a = c.args in
    settle_removed a.k a.abandoned a.first a.second a.players.now _ c.if-abandoned.true c.remove.ensures

pub returns : goal.returns
returns c =
    let a = c.args in
    settle_delivered a.k a.abandoned a.first a.second a.players.now _ c.if-abandoned.false c.deliver.ensures
