-- `steps::leaving::abandon` meets its contract.
-- Assumes nothing.
use mathlib.Core.Path.{◌≡◌, refl, sym, ap, ◌∙◌}
use Rattle.std.specs.Prelude.{Err}
use Rattle.std.proofs.lemmas.Result.{err_from_is_err_and}
use Rattle.requests.specs.declared.Fit.TheVariants.{Pending}
use Rattle.players.specs.Replies.{refusal}
use Rattle.players.specs.Rules.{abandon}
use Rattle.steps.proofs.AnswerLaws.{no_such, such, no_player, a_player}
use Rattle.steps.proofs.LeavingLaws.{unfit_moves, abandon_other, abandon_load, abandon_write}
use Rattle.steps.proofs.leaving.abandon.Goals as goal

pub returns-in_err-place : goal.returns-in_err-place
returns-in_err-place c =
    let a = c.args in
    let q = no_such a.players.now Pending a.serial _ (sym c.requested.ensures ∙ c.in_err-place.was) in
    let x = err_from_is_err_and c.from_residual.result c.from_residual.ensures.1 in
    let e : c.from_residual.result ≡ Err c.in_err-place.field-0.0 = x.1 ∙ ap Err x.2 in
    rw e (unfit_moves Pending a.serial abandon a.players.now c.told-players q.0 _ (ap refusal q.1))

pub returns-then-request-ne-WRITE : goal.returns-then-request-ne-WRITE
returns-then-request-ne-WRITE c =
    let a = c.args in
    let h = such a.players.now Pending a.serial _ (sym c.requested.ensures ∙ c.in_ok-place.was) in
    abandon_other a.serial a.players.now c.told-players _ _ h _ c.give_up.ensures c.if-request-ne-WRITE.true _ refl

pub returns-in_default : goal.returns-in_default
returns-in_default c =
    let a = c.args in
    let h = such a.players.now Pending a.serial _ (sym c.requested.ensures ∙ c.in_ok-place.was) in
    abandon_load a.serial a.players.now c.told-players _ _ h _ c.give_up.ensures c.if-request-ne-WRITE.false (no_player _ _ (sym c.try_from.ensures ∙ c.in_default.is)).0 _ refl

pub returns : goal.returns
returns c =
    let a = c.args in
    let h = such a.players.now Pending a.serial _ (sym c.requested.ensures ∙ c.in_ok-place.was) in
    let g = a_player _ _ (sym c.try_from.ensures ∙ c.in-Ok.is) in
    abandon_write a.serial a.players.now c.told-players _ _ h _ c.give_up.ensures c.if-request-ne-WRITE.false g.1 _ (rw g.0 at c.drop_guard.ensures) _ refl
