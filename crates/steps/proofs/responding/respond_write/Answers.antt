-- `steps::responding::respond_write` meets its contract: a case at each return.
-- Assumes nothing.
use Rattle.steps.proofs.RespondLaws.{write_commits, write_rejected}
use Rattle.steps.proofs.responding.respond_write.Goals as goal

pub returns-then-r-ne1 : goal.returns-then-r-ne1
returns-then-r-ne1 c =
    let a = c.args in
    let t = a.asked.theirs in
    write_rejected a.asked.request a.asked.known c.if-r-ne1.true a.players.now _ (rw (← t) at c.drop_guard.ensures) _ c.write_reply.ensures

pub returns : goal.returns
returns c =
    let a = c.args in
    let t = a.asked.theirs in
    write_commits a.asked.request a.asked.known c.if-r-ne1.false a.players.now _ (rw (← t) at c.remember.ensures) _ c.write_reply-2.ensures
