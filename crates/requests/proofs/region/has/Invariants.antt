use Rattle.std.proofs.Common.{◌≡◌}
use Rattle.requests.specs.Model.{any}
use Rattle.requests.specs.Region.{requests_of}
use Rattle.requests.proofs.region.has.Given as goal

-- the test holds of one of them where it holds of one of those that are left
abbrev pub invariant-loop-request : goal.invariant-loop-request
invariant-loop-request g l =
    (goal.iterator-loop-request g).can_next l.request-iterator × (goal.iterator-loop-request g).is_finite l.request-iterator
    × (any (g.T.Test.holds l.test) (requests_of l.region) ≡ any (g.T.Test.holds l.test) l.request-iterator)
