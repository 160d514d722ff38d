-- `steps::leaving::restart_player` meets its contract.
-- Assumes nothing.
use mathlib.Core.Path.{◌≡◌, refl, sym, ap, ◌∙◌}
use Rattle.std.specs.Prelude.{Err}
use Rattle.std.proofs.lemmas.Result.{err_from_is_err_and}
use Rattle.players.specs.Replies.{refusal}
use Rattle.steps.proofs.AnswerLaws.{no_player, a_player}
use Rattle.steps.proofs.LeavingLaws.{restart_refused, restart_moves}
use Rattle.steps.proofs.leaving.restart_player.Goals as goal

pub returns-in_err-restarted : goal.returns-in_err-restarted
returns-in_err-restarted c =
    let a = c.args in
    let q = no_player a.player _ (sym c.try_from.ensures ∙ c.in_err-restarted.was) in
    let x = err_from_is_err_and c.from_residual.result c.from_residual.ensures.1 in
    let e : c.from_residual.result ≡ Err c.in_err-restarted.field-0.0 = x.1 ∙ ap Err x.2 in
    rw e (restart_refused a.players.now c.told-players a.player q.0 _ (ap refusal q.1))

pub returns : goal.returns
returns c =
    let a = c.args in
    let g = a_player a.player _ (sym c.try_from.ensures ∙ c.in_ok-restarted.was) in
    restart_moves a.players.now c.told-players a.player g.1 _ (rw (g.0, c.all.ensures.low, c.all.ensures.high) at c.clear.ensures) _ c.restart.ensures _ refl
