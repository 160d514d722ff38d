-- `steps::responding::respond` meets its contract: a case at each return.
-- Assumes nothing.
use mathlib.Core.Path.{◌≡◌, sym, ap, ◌∙◌}
use Rattle.std.specs.Prelude.{Err}
use Rattle.std.proofs.lemmas.Result.{err_from_is_err_and}
use Rattle.requests.specs.declared.Fit.TheVariants.{Answerable}
use Rattle.players.specs.Replies.{refusal}
use Rattle.players.specs.Rules.{respond}
use Rattle.steps.proofs.AnswerLaws.{no_such, such}
use Rattle.steps.proofs.LeavingLaws.{unfit_moves}
use Rattle.steps.proofs.RespondLaws.{respond_done}
use Rattle.steps.proofs.responding.respond.Goals as goal

pub returns-in_err-place : goal.returns-in_err-place
returns-in_err-place c =
    let a = c.args in
    let q = no_such a.players.now Answerable a.serial _ (sym c.requested.ensures ∙ c.in_err-place.was) in
    let x = err_from_is_err_and c.from_residual.result c.from_residual.ensures.1 in
    let e : c.from_residual.result ≡ Err c.in_err-place.field-0.0 = x.1 ∙ ap Err x.2 in
    rw e (unfit_moves Answerable a.serial respond a.players.now c.told-players q.0 _ (ap refusal q.1))

pub returns : goal.returns
returns c =
    let a = c.args in
    respond_done a.players.now c.told-players a.serial _ _ (such a.players.now Answerable a.serial _ (sym c.requested.ensures ∙ c.in_ok-place.was)) _ c.remove.ensures _ _ c.respond_to.ensures
