-- `steps::previews::preview` meets its contract: a players' table that is not whole.
-- Assumes nothing.
use mathlib.Core.Path.{refl}
use Rattle.std.proofs.Common.{rules}
use Rattle.steps.proofs.JoinLaws.{players_wrong}
use Rattle.steps.proofs.PreviewLaws.{step_wrong}
use Rattle.steps.proofs.previews.preview.Goals as goal

pub returns-in_default : goal.returns-in_default
returns-in_default c =
    let a = c.args in
    step_wrong a.store.now a.players.now a.next _ (players_wrong a.store.now a.players.now (search rules)) refl
