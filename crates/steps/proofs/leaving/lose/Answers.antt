-- `steps::leaving::lose` meets its contract.
-- Assumes nothing.
use mathlib.Core.Path.{◌≡◌, refl, sym, ap, ◌∙◌}
use Rattle.std.specs.Prelude.{Err}
use Rattle.std.proofs.lemmas.Result.{err_from_is_err_and}
use Rattle.requests.specs.declared.Fit.TheVariants.{Abandoned}
use Rattle.players.specs.Replies.{refusal}
use Rattle.players.specs.Rules.{lose}
use Rattle.steps.proofs.AnswerLaws.{no_such, such}
use Rattle.steps.proofs.LeavingLaws.{unfit_moves, lose_moves}
use Rattle.steps.proofs.leaving.lose.Goals as goal

pub returns-in_err-place : goal.returns-in_err-place
returns-in_err-place c =
    let a = c.args in
    let q = no_such a.players.now Abandoned a.serial _ (sym c.requested.ensures ∙ c.in_err-place.was) in
    let x = err_from_is_err_and c.from_residual.result c.from_residual.ensures.1 in
    let e : c.from_residual.result ≡ Err c.in_err-place.field-0.0 = x.1 ∙ ap Err x.2 in
    rw e (unfit_moves Abandoned a.serial lose a.players.now c.told-players q.0 _ (ap refusal q.1))

pub returns : goal.returns
returns c =
    let a = c.args in
    lose_moves a.serial a.players.now c.told-players _ _ (such a.players.now Abandoned a.serial _ (sym c.requested.ensures ∙ c.in_ok-place.was)) _ c.remove.ensures _ refl
