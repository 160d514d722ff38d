use Rattle.std.proofs.Common.{rules}
use Rattle.store.proofs.CallLaws.{interval_whole, interval_wrong_length}
use Rattle.store.proofs.unchecked.find_interval.Goals as goal

pub returns-in_default : goal.returns-in_default
returns-in_default c = interval_wrong_length c.args.store.now c.args.entry (search rules)

pub returns : goal.returns
returns c = interval_whole _ c.in-Some.store.now c.in-Some.ensures.cases c.args.entry _ (rw c.from.ensures at c.find-found.ensures.found)
