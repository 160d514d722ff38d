-- the words up to `i` are those 12 further on.
use Prim.Native.Nat.{◌≤◌, ◌-◌}
use lib.ListN.{length}
use Rattle.requests.proofs.WordLaws.{Shifted}
use Rattle.requests.proofs.places.drop_first.Given as goal

abbrev pub invariant-loop-i : goal.invariant-loop-i
invariant-loop-i l = (l.i ≤ length l.initial.places - 12) × Shifted 12 0 l.i l.initial.places l.places

abbrev pub decreases-loop-i : goal.decreases-loop-i
decreases-loop-i l = length l.initial.places - 12 - l.i
