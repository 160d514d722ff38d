-- `steps::cells::drop_guard` meets its contract. The loop's invariant: what is left to be done is all that is to be done.
-- Assumes nothing.
use mathlib.Core.Path.{◌≡◌}
use Prim.Native.Nat.{◌+◌, ◌-◌, ◌*◌}
use Rattle.steps.specs.InnerWords.{dropped}
use Rattle.steps.proofs.cells.drop_guard.Given as goal

abbrev pub invariant-loop-k : goal.invariant-loop-k
invariant-loop-k l = dropped l.guard (l.fn.player * 256 + l.k * 4) (256 - l.k * 4) l.players ≡ dropped l.guard (l.fn.player * 256) 256 l.initial.players
