-- `famdrize::tables::famdrize_share` meets its contract.
-- Assumes nothing.
use mathlib.Core.Path.{◌∙◌}
use Rattle.famdrize.proofs.tables.famdrize_share.Goals as goal

pub returns : goal.returns
returns c = c.given.ensures ∙ c.share.ensures
