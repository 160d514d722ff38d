-- `players::rules::flaw` meets its contract.
-- Assumes nothing.
use Rattle.players.proofs.CheckLaws.{flaw_is}
use Rattle.players.proofs.rules.flaw.Goals as goal

pub returns : goal.returns
returns c =
    let a = c.args in
    flaw_is a.last a.guard a.version a.value c.above.result c.above-2.result c.unguarded.result c.above.ensures c.above-2.ensures c.unguarded.ensures
