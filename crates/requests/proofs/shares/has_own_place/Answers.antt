use Rattle.std.proofs.Common.{◌≡◌, ℕ, refl, ◌∙◌}
use Rattle.std.specs.Prelude.{not, leb, ltb}
use mathlib.Core.Logic.{⊎_elim}
use borrow.Author.Tests.{ltb-true, ltb-false, le-ltb, lt-leb, le-leb}
use Rattle.requests.proofs.Basics.{decide}
use Rattle.requests.proofs.shares.has_own_place.Goals as goal

-- below n is not n or above
below : (m n : ℕ) → ltb m n ≡ not (leb n m)
below m n = ⊎_elim (λ t. t ∙ rw (lt-leb n m (ltb-true m n t)) refl) (λ t. t ∙ rw (le-leb n m (ltb-false m n t)) refl) (decide (ltb m n))

pub returns-then-player-lt-LOADER : goal.returns-then-player-lt-LOADER
returns-then-player-lt-LOADER c = rw (c.from.ensures, lt-leb 8 c.args.player c.if-player-lt-LOADER.true) (below _ _)

pub returns-else-player-lt-LOADER : goal.returns-else-player-lt-LOADER
returns-else-player-lt-LOADER c = rw (le-leb 8 c.args.player c.if-player-lt-LOADER.false) (le-ltb _ _ c.if-player-lt-LOADER.false)
