-- The test of some words, by the first two of them.
-- Assumes nothing.
use Rattle.std.proofs.Common.{◌≡◌, refl, ℕ, ◌≤◌, ◌<◌, List, [], ◌∷◌, length, drop, get_or, arith}
use Rattle.std.specs.Prelude.{◌&&◌, eqb}
use Rattle.counters.specs.Model.{counts, sound}
use Rattle.counters.specs.Region.{all_sound}

pub all_sound-first : (w : List ℕ) → 2 ≤ length w → all_sound w ≡ (sound (counts (get_or w 0 0) (get_or w 1 0)) && all_sound (drop 2 w))
unfolding all_sound
all_sound-first [] h = absurd (omega arith)
all_sound-first (a ∷ []) h = absurd (omega arith)
all_sound-first (a ∷ b ∷ w) h = refl

pub all_sound-short : (w : List ℕ) → length w < 2 → eqb (length w) 0 ≡ all_sound w
unfolding all_sound
all_sound-short [] h = refl
all_sound-short (a ∷ []) h = refl
all_sound-short (a ∷ b ∷ w) h = absurd (omega arith)
