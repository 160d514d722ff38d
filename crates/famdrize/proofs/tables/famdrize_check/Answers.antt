-- `famdrize::tables::famdrize_check` meets its contract.
-- Assumes nothing.
use mathlib.Core.Path.{◌∙◌}
use Rattle.famdrize.proofs.tables.famdrize_check.Goals as goal

pub returns : goal.returns
returns c = c.given.ensures ∙ c.check.ensures
