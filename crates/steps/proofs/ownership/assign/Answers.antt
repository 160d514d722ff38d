-- `steps::ownership::assign` meets its contract.
-- Assumes nothing.
use mathlib.Core.Path.{◌≡◌, sym, ap, ◌∙◌}
use Rattle.std.specs.Prelude.{Err}
use Rattle.std.proofs.lemmas.Result.{err_from_is_err_and}
use Rattle.players.specs.Replies.{refusal}
use Rattle.steps.proofs.AnswerLaws.{no_player, a_player}
use Rattle.steps.proofs.OwnershipLaws.{assign_player, assign_own}
use Rattle.steps.proofs.ownership.assign.Goals as goal

pub returns-in_err-try_from : goal.returns-in_err-try_from
returns-in_err-try_from c =
    let a = c.args in
    let q = no_player a.player _ (sym c.try_from.ensures ∙ c.in_err-try_from.was) in
    let x = err_from_is_err_and c.from_residual.result c.from_residual.ensures.1 in
    let e : c.from_residual.result ≡ Err c.in_err-try_from.field-0.0 = x.1 ∙ ap Err x.2 in
    rw e (assign_player a.players.now c.told-players a.player a.range q.0 _ (ap refusal q.1))

pub returns : goal.returns
returns c =
    let a = c.args in
    assign_own a.players.now c.told-players a.player a.range (a_player a.player _ (sym c.try_from.ensures ∙ c.in_ok-try_from.was)).1 _ _ c.set_owner.ensures
