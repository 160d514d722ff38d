-- `steps::store_steps::split` meets its contract.
-- Assumes nothing.
use mathlib.Core.Path.{◌≡◌, sym, ap, ◌∙◌}
use native.Mathlib.Omega.{arith}
use Rattle.std.specs.Prelude.{Result, Err}
use Rattle.std.proofs.lemmas.Result.{err_from_is_err_and}
use Rattle.store.specs.Answers.{nothing, as_reply}
use Rattle.store.specs.Calls.{done}
use Rattle.store.specs.declared.refusal.Refusal.{Refusal}
use Rattle.store.proofs.WordLaws.{split_refines}
use Rattle.steps.proofs.StoreStepLaws.{split_shifts}
use Rattle.steps.proofs.store_steps.split.Goals as goal

pub returns-in_err-split : goal.returns-in_err-split
returns-in_err-split c =
    let a = c.args in
    let x = err_from_is_err_and c.from_residual.result c.from_residual.ensures.1 in
    let e : c.from_residual.result ≡ Err c.in_err-split.field-0.0 = x.1 ∙ ap Err x.2 in
    rw e
    (split_shifts a.store.now c.told-store a.entry _ _
    (split_refines a.entry (omega arith) (ap (λ (r : Result Unit Refusal). done (as_reply nothing r) c.split.new.store) (sym c.in_err-split.was) ∙ c.split.ensures)))

pub returns : goal.returns
returns c =
    let a = c.args in
    split_shifts a.store.now c.told-store a.entry _ _
    (split_refines a.entry (omega arith) (ap (λ (r : Result Unit Refusal). done (as_reply nothing r) c.split.new.store) (sym c.in_ok-split.was) ∙ c.split.ensures))
