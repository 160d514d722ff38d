-- `steps::responding::respond_read` meets its contract.
-- Assumes nothing.
use Rattle.steps.proofs.RespondLaws.{read_responds}
use Rattle.steps.proofs.responding.respond_read.Goals as goal

pub returns : goal.returns
returns c =
    let a = c.args in
    let t = a.asked.theirs in
    read_responds a.asked.request a.asked.known a.players.now _ _ (rw (← t) at c.remember.ensures) (rw (← t) at c.count.ensures)
