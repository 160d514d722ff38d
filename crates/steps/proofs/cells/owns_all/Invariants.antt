-- `steps::cells::owns_all` meets its contract. The loop's invariant: the test of the entries that are left is that of all.
-- Assumes nothing.
use mathlib.Core.Path.{◌≡◌}
use Prim.Native.Nat.{◌+◌, ◌-◌}
use Rattle.steps.specs.InnerWords.{all_are}
use Rattle.steps.proofs.cells.owns_all.Given as goal

abbrev pub invariant-loop-e : goal.invariant-loop-e
invariant-loop-e l = all_are l.player (1 + l.e) (l.e-end - l.e) l.players ≡ all_are l.player (1 + l.fn.entries.low) (l.fn.entries.high - l.fn.entries.low) l.players
