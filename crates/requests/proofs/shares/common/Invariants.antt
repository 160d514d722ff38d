use Rattle.std.proofs.Common.{◌≡◌, ◌≤◌, ◌+◌, ◌*◌}
use Rattle.requests.specs.Model.{loader}
use Rattle.requests.specs.Shares.{above_own, count_in}
use Rattle.requests.proofs.shares.common.Given as goal

-- the common places of the loader, and of the players so far
abbrev pub invariant-loop-player : goal.invariant-loop-player
invariant-loop-player l =
    (l.used ≡ count_in l.counts loader + above_own (count_in l.counts) l.player) × (l.used ≤ 255 + 255 * l.player)
