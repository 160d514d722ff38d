-- `steps::leaving::give_up` meets its contract.
-- Assumes nothing.
use Rattle.steps.proofs.LeavingLaws.{give_up_removed, give_up_abandoned}
use Rattle.steps.proofs.leaving.give_up.Goals as goal

pub returns-then-delivered : goal.returns-then-delivered
returns-then-delivered c =
    let a = c.args in
    give_up_removed a.k a.players.now _ c.remove.ensures a.delivered c.if-delivered.true

pub returns : goal.returns
returns c =
    let a = c.args in
    give_up_abandoned a.k a.players.now _ c.abandon.ensures a.delivered c.if-delivered.false
