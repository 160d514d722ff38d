use Rattle.store.proofs.TabletLaws.{tablet_range}
use Rattle.store.proofs.tablets.tablet.Goals as goal

pub new-requires-clause-some : goal.new-requires-clause-some
new-requires-clause-some c = (tablet_range _ c.args.entry _ _ c.ranges.entry.fits (rw c.from.ensures at c.tablet_start.ensures) c.tablet_limit.ensures).0

pub new-requires-clause-within : goal.new-requires-clause-within
new-requires-clause-within c = (tablet_range _ c.args.entry _ _ c.ranges.entry.fits (rw c.from.ensures at c.tablet_start.ensures) c.tablet_limit.ensures).1
