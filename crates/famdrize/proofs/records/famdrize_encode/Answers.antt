-- `famdrize::records::famdrize_encode` meets its contract.
-- Assumes nothing.
use mathlib.Core.Path.{◌∙◌, sym, ap}
use Rattle.store.specs.declared.Reply.{Reply}
use Rattle.session.specs.Written.{wrote}
use Rattle.famdrize.specs.Fields.{stated_of}
use Rattle.famdrize.proofs.FieldLaws.{on_taken, on_refused}
use Rattle.famdrize.proofs.records.famdrize_encode.Goals as goal

pub returns-in-Ok : goal.returns-in-Ok
returns-in-Ok c =
    ap (λ (r : Reply). wrote r c.encode.new.out) c.given.ensures
    ∙ c.encode.ensures
    ∙ sym (on_taken _ _ c.step_of.ensures _ _ c.in-Ok.step (ap stated_of c.in-Ok.is))

pub returns-in-Err : goal.returns-in-Err
returns-in-Err c =
    ap (λ (r : Reply). wrote r c.args.out.now) c.refuse.ensures
    ∙ sym (on_refused _ _ c.step_of.ensures _ _ _ (ap stated_of c.in-Err.is))
