-- `steps::store_steps::deliver` meets its contract.
-- Assumes nothing.
use mathlib.Core.Path.{◌≡◌, refl, sym, ap, ◌∙◌}
use Rattle.std.specs.Prelude.{Err}
use Rattle.std.proofs.lemmas.Result.{err_from_is_err_and}
use Rattle.requests.specs.declared.Fit.TheVariants.{Undelivered}
use Rattle.players.specs.Replies.{refusal}
use Rattle.steps.proofs.AnswerLaws.{no_such, such}
use Rattle.steps.proofs.StoreStepLaws.{deliver_unfit, deliver_fit}
use Rattle.steps.proofs.store_steps.deliver.Goals as goal

pub returns-in_err-place : goal.returns-in_err-place
returns-in_err-place c =
    let a = c.args in
    let q = no_such a.players.now Undelivered a.serial _ (sym c.requested.ensures ∙ c.in_err-place.was) in
    let x = err_from_is_err_and c.from_residual.result c.from_residual.ensures.1 in
    let e : c.from_residual.result ≡ Err c.in_err-place.field-0.0 = x.1 ∙ ap Err x.2 in
    rw (e, ap refusal q.1) (deliver_unfit a.store.now a.players.now c.told-store c.told-players a.serial q.0)

pub returns : goal.returns
returns c =
    let a = c.args in
    deliver_fit a.store.now a.players.now c.told-store c.told-players a.serial _ _ (such a.players.now Undelivered a.serial _ (sym c.requested.ensures ∙ c.in_ok-place.was))
    _ _ _ _ c.perform-outcome.ensures c.settle.ensures refl
