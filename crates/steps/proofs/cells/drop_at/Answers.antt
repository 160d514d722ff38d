-- `steps::cells::drop_at` meets its contract.
-- Assumes nothing.
use Rattle.steps.proofs.WordLaws.{drop-not, drop_one}
use Rattle.steps.proofs.cells.drop_at.Goals as goal

pub returns-then-players-i : goal.returns-then-players-i
returns-then-players-i c =
    let a = c.args in
    drop-not a.guard a.players.now a.i c.if-players-i.true

pub returns : goal.returns
returns c =
    let a = c.args in
    drop_one a.guard a.players.now a.i _ c.if-players-i.false c.cache.ensures
