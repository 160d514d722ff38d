-- of the places passed, those that remain stand first.
use Prim.Native.Nat.{◌≤◌, ◌-◌}
use Rattle.requests.proofs.RestartLaws.{Packed}
use Rattle.requests.proofs.region.restart_on.Given as goal

abbrev pub invariant-loop-region : goal.invariant-loop-region
invariant-loop-region l = (l.k ≤ 64) × Packed l.player l.j l.k l.initial.region l.region

abbrev pub decreases-loop-region : goal.decreases-loop-region
decreases-loop-region l = 64 - l.k
