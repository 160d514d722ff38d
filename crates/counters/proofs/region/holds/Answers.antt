-- `counters::region::holds` meets its contract.
-- Assumes nothing.
use mathlib.Core.Path.{refl}
use borrow.Author.Tests.{ne_eqb}
use Rattle.counters.specs.Region.{valid}
use Rattle.counters.proofs.region.holds.Goals as goal

pub returns-then-region-eq-WORDS : goal.returns-then-region-eq-WORDS
unfolding valid
returns-then-region-eq-WORDS c = rw c.if-region-eq-WORDS.true c.all_sound.ensures

pub returns-else-region-eq-WORDS : goal.returns-else-region-eq-WORDS
unfolding valid
returns-else-region-eq-WORDS c = rw (ne_eqb _ _ c.if-region-eq-WORDS.false) refl
