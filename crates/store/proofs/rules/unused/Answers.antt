use Rattle.store.proofs.Lists.{rest}
use Rattle.store.proofs.rules.unused.Goals as goal

pub returns : goal.returns
returns c =
    let a = c.args in
    rw (c.are_zero.ensures, c.are_zero-2.ensures, rest a.starts.now 256 c.told-starts a.k, rest a.guards.now 256 c.told-guards a.k)
