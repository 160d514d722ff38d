-- `famdrize::alone::famdrize_store_fresh` meets its contract.
-- Assumes nothing.
use mathlib.Core.Path.{◌∙◌, ap}
use Rattle.store.specs.declared.Reply.{Reply}
use Rattle.store.specs.Calls.{done}
use Rattle.famdrize.proofs.alone.famdrize_store_fresh.Goals as goal

pub returns : goal.returns
returns c =
    let f = c.fresh in
    ap (λ (r : Reply). done r f.new.store) c.given.ensures ∙ f.ensures
