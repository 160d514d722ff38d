use Rattle.std.proofs.Common.{length}
use Rattle.counters.proofs.region.+all_sound.Given as goal

abbrev pub decreases-all_sound : goal.decreases-all_sound
decreases-all_sound l = length l.words.now
