use Rattle.std.proofs.Common.{arith}
use Rattle.store.specs.Calls.{merge}
use Rattle.store.proofs.CallLaws.{finished}
use Rattle.store.proofs.WordLaws.{merge_refines}
use Rattle.store.proofs.merge.Goals as goal

pub returns : goal.returns
returns c = finished c.args.store.now c.in_ok-check.ensures (merge c.args.entry) _ _ (merge_refines c.args.entry (omega arith) c.merge.ensures)
