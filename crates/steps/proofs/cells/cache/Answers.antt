-- `steps::cells::cache` meets its contract.
-- Assumes nothing.
use mathlib.Core.Path.{refl}
use Rattle.steps.specs.InnerWords.{caching}
use Rattle.steps.proofs.cells.cache.Goals as goal

pub returns : goal.returns
unfolding caching
returns c = refl
