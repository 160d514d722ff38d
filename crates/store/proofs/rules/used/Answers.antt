use Rattle.std.proofs.Common.{ap, ◌+◌, ℕ}
use Rattle.store.proofs.Lists.{rest}
use Rattle.store.proofs.Searches.{used_is}
use Rattle.store.proofs.rules.used.Goals as goal

pub returns : goal.returns
returns c = used_is c.args.starts.now c.told-starts _ (ap (λ (k : ℕ). 1 + k) (rw (rest c.args.starts.now 256 c.told-starts) at c.place_of.ensures.place))
