-- `steps::apply` meets its contract.
-- Assumes nothing.
use mathlib.Core.Path.{◌≡◌}
use Rattle.std.proofs.Common.{rules}
use Rattle.steps.proofs.apply.Goals as goal

pub returns : goal.returns
returns c =
    let a = c.args in
    let t : c.in-Some.store.now ≡ a.store.now = search rules in
    rw (← t) c.apply_beside.ensures
