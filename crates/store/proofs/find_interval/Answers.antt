use Rattle.std.proofs.Common.{arith}
use Rattle.store.proofs.Reach.{interval_finished}
use Rattle.store.proofs.find_interval.Goals as goal

pub returns : goal.returns
returns c = interval_finished c.args.store.now c.args.entry c.in_ok-check.ensures (omega arith) _ c.find_interval.ensures
