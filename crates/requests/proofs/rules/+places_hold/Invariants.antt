use Rattle.std.proofs.Common.{length}
use Rattle.requests.proofs.rules.+places_hold.Given as goal

abbrev pub decreases-places_hold : goal.decreases-places_hold
decreases-places_hold l = length l.places.now
