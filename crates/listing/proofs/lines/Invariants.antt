-- `listing::lines` meets its contract.
-- Assumes nothing.
use mathlib.Core.Path.{◌≡◌}
use lib.ListN.{length}
use Rattle.listing.proofs.LineLaws.{Lined}
use Rattle.listing.proofs.lines.Given as goal

abbrev pub invariant-loop-i : goal.invariant-loop-i
invariant-loop-i l = (Lined l.replies l.report.records l.i l.at l.out) × (length l.out ≡ length l.initial.out)
