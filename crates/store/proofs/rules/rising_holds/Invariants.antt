use Rattle.std.proofs.Common.{◌≡◌, ◌-◌, drop, get_or}
use Rattle.std.specs.Prelude.{◌&&◌}
use Rattle.store.specs.Table.{rising}
use Rattle.store.proofs.rules.rising_holds.Given as goal

-- what the intervals before gave, and the test of those from place k on, is the test of all after the first
abbrev pub invariant-loop-k : goal.invariant-loop-k
invariant-loop-k l =
    (l.good && rising l.last (get_or l.starts (l.k - 1) 0) (get_or l.guards (l.k - 1) 0) (drop l.k l.starts) (drop l.k l.guards))
    ≡ rising l.last 0 (get_or l.guards 0 0) (drop 1 l.starts) (drop 1 l.guards)
