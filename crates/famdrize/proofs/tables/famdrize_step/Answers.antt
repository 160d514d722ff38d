-- `famdrize::tables::famdrize_step` meets its contract.
-- Assumes nothing.
use mathlib.Core.Path.{◌∙◌, sym, ap}
use Rattle.store.specs.declared.Reply.{Reply}
use Rattle.players.specs.Calls.{left}
use Rattle.famdrize.specs.Fields.{stated_of}
use Rattle.famdrize.proofs.FieldLaws.{on_taken, on_refused}
use Rattle.famdrize.proofs.tables.famdrize_step.Goals as goal

pub returns-in-Ok : goal.returns-in-Ok
returns-in-Ok c =
    ap (λ (r : Reply). left r c.step.new.store c.step.new.players) c.given.ensures
    ∙ c.step.ensures
    ∙ sym (on_taken _ _ c.step_of.ensures _ _ c.in-Ok.next (ap stated_of c.in-Ok.is))

pub returns-in-Err : goal.returns-in-Err
returns-in-Err c =
    let a = c.args in
    ap (λ (r : Reply). left r a.store.now a.players.now) c.refuse.ensures
    ∙ sym (on_refused _ _ c.step_of.ensures _ _ _ (ap stated_of c.in-Err.is))
