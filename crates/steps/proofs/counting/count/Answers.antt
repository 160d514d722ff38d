-- `steps::counting::count` meets its contract.
-- Assumes nothing.
use Rattle.steps.proofs.StateLaws.{counted_words}
use Rattle.steps.proofs.counting.count.Goals as goal

pub returns : goal.returns
returns c =
    let a = c.args in
    counted_words a.player a.code a.players.now _ (rw c.from.ensures at c.count.ensures)
