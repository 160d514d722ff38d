-- `famdrize::alone::famdrize_store_read` meets its contract.
-- Assumes nothing.
use mathlib.Core.Path.{◌∙◌, ap}
use Rattle.store.specs.declared.Reply.{Reply}
use Rattle.store.specs.Calls.{done}
use Rattle.famdrize.proofs.alone.famdrize_store_read.Goals as goal

pub returns : goal.returns
returns c =
    let t = c.args.store.now in
    ap (λ (r : Reply). done r t) c.given.ensures ∙ c.read.ensures
