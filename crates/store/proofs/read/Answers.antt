use Rattle.std.proofs.Common.{arith}
use Rattle.store.specs.Calls.{read}
use Rattle.store.proofs.CallLaws.{finished}
use Rattle.store.proofs.WordLaws.{read_refines}
use Rattle.store.proofs.read.Goals as goal

pub returns : goal.returns
returns c = finished c.args.store.now c.in_ok-check.ensures (read c.args.entry) _ _ (read_refines c.args.entry (omega arith) c.read.ensures)
