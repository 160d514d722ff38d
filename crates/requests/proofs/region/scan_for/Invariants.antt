use Rattle.std.proofs.Common.{◌≡◌, ◌+◌, ◌<◌, ℕ, length, get_or}
use Rattle.requests.specs.Shares.{count_by}
use Rattle.std.specs.Prelude.{◌||◌}
use Rattle.requests.specs.Model.{any}
use Rattle.requests.specs.Region.{requests_of}
use Rattle.requests.proofs.region.scan_for.Given as goal

-- those seen and those left are all, and counted by player; the test holds of one of all where it held of one seen, or holds of one left
abbrev pub invariant-loop-request : goal.invariant-loop-request
invariant-loop-request g l =
    (goal.iterator-loop-request g).can_next l.request-iterator × (goal.iterator-loop-request g).is_finite l.request-iterator
    × (l.used + length l.request-iterator ≡ length (requests_of l.region))
    × (any (g.T.Test.holds l.test) (requests_of l.region) ≡ l.hit || any (g.T.Test.holds l.test) l.request-iterator)
    × (length l.counts ≡ 9)
    × ((p : ℕ) → p < 9 → get_or l.counts p 0 + count_by p l.request-iterator ≡ count_by p (requests_of l.region))
