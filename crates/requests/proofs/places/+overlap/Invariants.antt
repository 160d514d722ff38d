use Rattle.std.proofs.Common.{length}
use Rattle.requests.proofs.places.+overlap.Given as goal

abbrev pub decreases-overlap : goal.decreases-overlap
decreases-overlap g l = length l.places.now
