-- `store::tablets::tablet_start` ends: each call is for the entry before.
-- Assumes nothing.
use Rattle.store.proofs.tablets.+tablet_start.Given as goal

abbrev pub decreases-tablet_start : goal.decreases-tablet_start
decreases-tablet_start l = l.entry
