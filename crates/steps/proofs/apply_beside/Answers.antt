-- `steps::apply_beside` meets its contract.
-- Assumes nothing.
use mathlib.Core.Path.{◌≡◌}
use Rattle.std.proofs.Common.{rules}
use Rattle.steps.proofs.apply_beside.Goals as goal

pub returns : goal.returns
returns c =
    let a = c.args in
    let t : c.in-Some.players.now ≡ a.players.now = search rules in
    rw (← t) c.apply_on.ensures
