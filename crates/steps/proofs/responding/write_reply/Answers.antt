-- `steps::responding::write_reply` meets its contract: a case at each return.
-- Assumes nothing.
use Rattle.steps.proofs.RespondLaws.{rejected_reply, committed_reply}
use Rattle.steps.proofs.responding.write_reply.Goals as goal

pub returns-then-r-ne1 : goal.returns-then-r-ne1
returns-then-r-ne1 c = rejected_reply c.args.r c.if-r-ne1.true

pub returns : goal.returns
returns c = committed_reply c.args.r c.if-r-ne1.false
