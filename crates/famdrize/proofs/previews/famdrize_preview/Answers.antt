-- `famdrize::previews::famdrize_preview` meets its contract.
-- Assumes nothing.
use mathlib.Core.Path.{◌∙◌, sym, ap}
use Rattle.players.specs.Calls.{Done}
use Rattle.famdrize.specs.Fields.{stated_of}
use Rattle.famdrize.proofs.FieldLaws.{on_taken, on_refused}
use Rattle.famdrize.proofs.previews.famdrize_preview.Goals as goal

pub returns-in-Ok : goal.returns-in-Ok
returns-in-Ok c =
    c.given.ensures
    ∙ c.preview.ensures
    ∙ ap (λ (d : Done). d.reply) (sym (on_taken _ _ c.step_of.ensures _ _ c.in-Ok.next (ap stated_of c.in-Ok.is)))

pub returns-in-Err : goal.returns-in-Err
returns-in-Err c =
    c.refuse.ensures
    ∙ ap (λ (d : Done). d.reply) (sym (on_refused _ _ c.step_of.ensures _ _ _ (ap stated_of c.in-Err.is)))
