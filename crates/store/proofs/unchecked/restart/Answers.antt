use Rattle.store.specs.Table.{part}
use Rattle.store.specs.Words.{restart_words}
use Rattle.store.proofs.CallLaws.{tested_whole, restart_is}
use Rattle.store.proofs.unchecked.restart.Goals as goal

pub returns : goal.returns
unfolding part
returns c =
    let e = c.args.entry in
    let u = c.in-Some.store.now in
    let k = c.in-Some.ensures.cases in
    tested_whole (restart_words e) _ u k _
    (restart_is u e _ _ (rw c.boundaries.ensures at c.tablet-tablet.ensures.low) (rw c.boundaries.ensures at c.tablet-tablet.ensures.high) _ c.set_over.ensures)
