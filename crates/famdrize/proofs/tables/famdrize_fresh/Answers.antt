-- `famdrize::tables::famdrize_fresh` meets its contract.
-- Assumes nothing.
use mathlib.Core.Path.{◌∙◌, ap}
use Rattle.store.specs.declared.Reply.{Reply}
use Rattle.players.specs.Calls.{left}
use Rattle.famdrize.proofs.tables.famdrize_fresh.Goals as goal

pub returns : goal.returns
returns c = ap (λ (r : Reply). left r c.fresh.new.store c.fresh.new.players) c.given.ensures ∙ c.fresh.ensures
