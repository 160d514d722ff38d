use Rattle.std.proofs.Common.{arith}
use Rattle.store.specs.Calls.{split}
use Rattle.store.proofs.CallLaws.{finished}
use Rattle.store.proofs.WordLaws.{split_refines}
use Rattle.store.proofs.split.Goals as goal

pub returns : goal.returns
returns c = finished c.args.store.now c.in_ok-check.ensures (split c.args.entry) _ _ (split_refines c.args.entry (omega arith) c.split.ensures)
