-- `steps::cells::drop_four` meets its contract.
-- Assumes nothing.
use Rattle.steps.proofs.WordLaws.{drop_four}
use Rattle.steps.proofs.cells.drop_four.Goals as goal

pub returns : goal.returns
returns c =
    let a = c.args in
    drop_four a.guard a.players.now a.i _ _ _ _ c.drop_at.ensures c.drop_at-2.ensures c.drop_at-3.ensures c.drop_at-4.ensures
