-- `famdrize::step_fields::step_of` meets its contract: what is read of the fields, and whether the step has the same.
-- Assumes nothing.
use mathlib.Core.Path.{◌≡◌, ◌∙◌, sym, ap}
use mathlib.Core.Bool.{true, false}
use Rattle.std.specs.Prelude.{Err}
use Rattle.std.proofs.lemmas.Result.{err_from_is_err_and}
use Rattle.session.specs.Decoded.{decoded_of}
use Rattle.session.specs.Fields.{six}
use Rattle.famdrize.specs.Fields.{agree}
use Rattle.famdrize.proofs.FieldLaws.{stated_refused, stated_by}
use Rattle.famdrize.proofs.step_fields.step_of.Goals as goal

pub returns-then-same : goal.returns-then-same
returns-then-same c =
    let a = c.args in
    sym
    (stated_by a.kind a.player a.entry a.high a.value a.serial _ _ (sym c.of_fields.ensures ∙ ap decoded_of c.in_ok-step.was) true
    (sym c.if-same.true ∙ c.same.ensures ∙ ap (agree (six a.kind a.player a.entry a.high a.value a.serial)) c.from.ensures))

pub returns-else-same : goal.returns-else-same
returns-else-same c =
    let a = c.args in
    sym
    (stated_by a.kind a.player a.entry a.high a.value a.serial _ _ (sym c.of_fields.ensures ∙ ap decoded_of c.in_ok-step.was) false
    (sym c.if-same.false ∙ c.same.ensures ∙ ap (agree (six a.kind a.player a.entry a.high a.value a.serial)) c.from.ensures))

pub returns-in_err-step : goal.returns-in_err-step
returns-in_err-step c =
    let a = c.args in
    let x = err_from_is_err_and c.from_residual.result c.from_residual.ensures.1 in
    let e : c.from_residual.result ≡ Err c.in_err-step.field-0.0 = x.1 ∙ ap Err x.2 in
    rw e (stated_refused a.kind a.player a.entry a.high a.value a.serial _ (sym c.of_fields.ensures ∙ ap decoded_of c.in_err-step.was))
