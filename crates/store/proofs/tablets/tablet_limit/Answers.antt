use Rattle.std.proofs.Common.{arith, ◌+◌}
use Rattle.store.proofs.Lists.{rest}
use Rattle.store.proofs.TabletLaws.{end_is}
use Rattle.store.proofs.tablets.tablet_limit.Goals as goal

pub returns : goal.returns
returns c =
    let a = c.args in
    let n = c.place_of.ensures.place in
    rw (n, c.from-next.ensures, rest a.boundaries.now 256 c.told-boundaries (a.entry + 1)) (end_is a.boundaries.now a.entry _ (omega arith))
