-- `steps::previews::preview_run` meets its contract: a table that is not whole.
-- Assumes nothing.
use mathlib.Core.Path.{◌≡◌}
use mathlib.Core.Bool.{false}
use Rattle.session.specs.Reports.{reported}
use Rattle.std.proofs.Common.{rules}
use Rattle.players.specs.Calls.{whole}
use Rattle.steps.proofs.JoinLaws.{store_wrong, players_wrong}
use Rattle.steps.proofs.PreviewLaws.{run_wrong}
use Rattle.steps.proofs.previews.preview_run.Goals as goal
use Rattle.steps.proofs.previews.preview_run.Goals.{in_default-via-in-Some+in_default, in_default-via-in_default}

pub returns-in_default : goal.returns-in_default
returns-in_default c =
    let a = c.args in
    let w : whole a.store.now a.players.now ≡ false =
    elim c.in_default.branch [ in_default-via-in-Some+in_default v ↦ players_wrong a.store.now a.players.now (search rules) | in_default-via-in_default v ↦ store_wrong a.store.now a.players.now (search rules) ] in
    run_wrong a.store.now a.players.now a.session.now a.budget a.replies.now (reported c.refused.result) w c.refused.ensures
