use Rattle.store.proofs.Turns.{follows_is}
use Rattle.store.proofs.rules.follows.Goals as goal

pub returns : goal.returns
returns c =
    let a = c.args in
    rw c.guard_holds.ensures (follows_is a.last a.start a.guard a.next a.other)
