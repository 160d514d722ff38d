-- `famdrize::alone::famdrize_store_check_at` meets its contract.
-- Assumes nothing.
use mathlib.Core.Path.{◌∙◌}
use Rattle.famdrize.proofs.alone.famdrize_store_check_at.Goals as goal

pub returns : goal.returns
returns c = c.given.ensures ∙ c.check_at.ensures
