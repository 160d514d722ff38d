-- `players::rules::cell_flaw` meets its contract.
-- Assumes nothing.
use mathlib.Core.Path.{sym, ◌∙◌}
use Rattle.players.proofs.CheckLaws.{cached_at_is}
use Rattle.players.proofs.rules.cell_flaw.Goals as goal

pub returns : goal.returns
returns c =
    let a = c.args in
    c.flaw.ensures ∙ sym (cached_at_is a.players.now c.told-players a.i c.requires.0 a.player a.entry c.requires.1)
