-- `steps::step` meets its contract.
-- Assumes nothing.
use mathlib.Core.Path.{◌≡◌, sym, ap, ◌∙◌}
use Rattle.std.specs.Prelude.{Err}
use Rattle.std.proofs.lemmas.Result.{err_from_is_err_and}
use Rattle.store.specs.declared.Reply.{Reply}
use Rattle.store.specs.Answers.{nothing, as_reply}
use Rattle.store.proofs.Refusals.{number_of-positive}
use Rattle.players.specs.Calls.{left}
use Rattle.players.specs.Rules.{step}
use Rattle.players.proofs.CallLaws.{refused, finished}
use Rattle.steps.proofs.step.Goals as goal

pub returns-in_err-check : goal.returns-in_err-check
returns-in_err-check c =
    let a = c.args in
    let k : as_reply nothing c.check.result ≡ as_reply nothing (Err c.in_err-check.field-0.0) = ap (as_reply nothing) c.in_err-check.was in
    let x = err_from_is_err_and c.from_residual.result c.from_residual.ensures.1 in
    let e : c.from_residual.result ≡ Err c.in_err-check.field-0.0 = x.1 ∙ ap Err x.2 in
    rw e
    (ap (λ (r : Reply). left r a.store.now a.players.now) (sym k)
    ∙ refused a.store.now a.players.now (as_reply nothing c.check.result) c.check.ensures (λ s. step s a.next)
    (λ z. number_of-positive c.in_err-check.field-0.0 (sym (ap (λ (r : Reply). r.code) k) ∙ z)))

pub returns : goal.returns
returns c =
    let a = c.args in
    finished a.store.now a.players.now (as_reply nothing c.check.result) c.check.ensures (ap (λ r. (as_reply nothing r).code) c.in_ok-check.was) (λ s. step s a.next) _ _ _ c.apply.ensures
