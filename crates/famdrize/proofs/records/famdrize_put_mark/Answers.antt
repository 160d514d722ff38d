-- `famdrize::records::famdrize_put_mark` meets its contract.
-- Assumes nothing.
use mathlib.Core.Path.{◌∙◌, ap}
use Rattle.store.specs.declared.Reply.{Reply}
use Rattle.session.specs.Written.{wrote}
use Rattle.famdrize.proofs.records.famdrize_put_mark.Goals as goal

pub returns : goal.returns
returns c =
    let f = c.put_mark in
    ap (λ (r : Reply). wrote r f.new.out) c.given.ensures ∙ f.ensures
