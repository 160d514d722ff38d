-- `steps::running::put_reply` meets its contract.
-- Assumes nothing.
use native.Mathlib.Omega.{arith}
use lib.ListN.{length-set}
use Rattle.steps.proofs.LoopLaws.{put_three}
use Rattle.steps.proofs.running.put_reply.Goals as goal

pub bounds-list-at-2 : goal.bounds-list-at-2
bounds-list-at-2 c = simp length-set (omega arith)

pub bounds-list-at-3 : goal.bounds-list-at-3
bounds-list-at-3 c = simp length-set (omega arith)

pub returns : goal.returns
returns c = put_three c.args.list.now c.args.at c.args.reply.code c.args.reply.a c.args.reply.b
