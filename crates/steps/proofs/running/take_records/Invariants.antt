-- `steps::running::take_records` meets its contract.
-- Assumes nothing.
use mathlib.Core.Path.{◌≡◌}
use Prim.Native.Nat.{◌-◌}
use lib.ListN.{length, drop}
use Rattle.players.specs.Table.{state_of}
use Rattle.session.specs.Mark.{mark}
use Rattle.session.specs.Runs.{run_from}
use Rattle.steps.proofs.RunningLaws.{Running}
use Rattle.steps.proofs.running.take_records.Given as goal

abbrev pub invariant-loop-place : goal.invariant-loop-place
invariant-loop-place l =
    (Running (run_from l.left (state_of l.initial.store l.initial.players) (length mark) (drop (length mark) l.session)) l.left l.session l.initial.replies l.taken l.place l.store l.players l.replies)
    × (length l.store ≡ length l.initial.store) × (length l.players ≡ length l.initial.players) × (length l.replies ≡ length l.initial.replies)

abbrev pub decreases-loop-place : goal.decreases-loop-place
decreases-loop-place l = length l.session - l.place
