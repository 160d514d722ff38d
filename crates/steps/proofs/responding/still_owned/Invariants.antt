-- `steps::responding::still_owned` meets its contract. The loop's invariant: the test of the entries that are left is that of all.
-- Assumes nothing.
use mathlib.Core.Path.{◌≡◌}
use Prim.Native.Nat.{◌-◌}
use Rattle.steps.specs.InnerRespond.{owning}
use Rattle.steps.proofs.responding.still_owned.Given as goal

abbrev pub invariant-loop-e : goal.invariant-loop-e
invariant-loop-e l = owning l.player l.serial l.e (l.e-end - l.e) l.players ≡ owning l.player l.serial l.fn.entries.low (l.fn.entries.high - l.fn.entries.low) l.players
