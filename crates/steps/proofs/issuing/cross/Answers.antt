-- `steps::issuing::cross` meets its contract.
-- Assumes nothing.
use mathlib.Core.Bool.{not}
use mathlib.Core.Path.{ap}
use Rattle.steps.proofs.IssuingLaws.{cross_none, cross_some}
use Rattle.steps.proofs.issuing.cross.Goals as goal

pub returns-then-not-any : goal.returns-then-not-any
returns-then-not-any c =
    let a = c.args in
    cross_none a.any a.player a.entry a.players.now (ap not c.if-not-any.true)

pub returns : goal.returns
returns c =
    let a = c.args in
    cross_some a.any a.player a.entry a.players.now (ap not c.if-not-any.false) _ _ c.cross.ensures
