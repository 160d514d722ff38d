use Rattle.std.proofs.Common.{◌≡◌, ◌+◌, length}
use Rattle.requests.specs.Region.{requests_of}
use Rattle.requests.specs.Calls.{found, found_from}
use Rattle.requests.proofs.region.find.Given as goal

-- what is found among all is what is found among those left
abbrev pub invariant-loop-request : goal.invariant-loop-request
invariant-loop-request l =
    (goal.iterator-loop-request).can_next l.request-iterator × (goal.iterator-loop-request).is_finite l.request-iterator
    × (l.place + length l.request-iterator ≡ length (requests_of l.region))
    × (found l.fit l.serial l.region ≡ found_from l.fit l.serial l.place l.request-iterator)
