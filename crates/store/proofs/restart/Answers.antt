use Rattle.std.proofs.Common.{arith}
use Rattle.store.specs.Calls.{restart}
use Rattle.store.proofs.CallLaws.{finished}
use Rattle.store.proofs.WordLaws.{restart_refines}
use Rattle.store.proofs.restart.Goals as goal

pub returns : goal.returns
returns c = finished c.args.store.now c.in_ok-check.ensures (restart c.args.entry) _ _ (restart_refines c.args.entry (omega arith) c.restart.ensures)
