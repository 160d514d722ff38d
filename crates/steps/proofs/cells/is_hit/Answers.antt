-- `steps::cells::is_hit` meets its contract where something is cached.
-- Assumes nothing.
use Rattle.steps.proofs.WordLaws.{same_guard}
use Rattle.steps.proofs.cells.is_hit.Goals as goal

pub returns-then-guard-ne0 : goal.returns-then-guard-ne0
returns-then-guard-ne0 c =
    let a = c.args in
    rw c.cell.ensures.cell (same_guard a.players.now a.player a.entry (rw c.cell.ensures.cell at c.if-guard-ne0.true) _ c.live_guard.ensures)
