-- Worked cases of counting, of the share, and of the region.
-- Assumes nothing.
use Rattle.std.specs.Prelude.{◌≡◌, refl, true, false, List, [], ◌∷◌, ◌++◌, map, ℕ, replicate}
use Rattle.store.specs.Calls.{reply}
use Rattle.counters.specs.Model.{counts, none, counted, counted_by, sound, share}
use Rattle.counters.specs.Region.{counts_of, words_from, region_of, all_sound, valid, counted_at, shared}

-- the first read of a player: 2 from memory, 3 from the store; no other code counts
pub first_case :
    map (counted_by none) (2 ∷ 3 ∷ 0 ∷ 1 ∷ 4 ∷ 5 ∷ 22 ∷ 39 ∷ []) ≡ counts 1 1 ∷ counts 1 0 ∷ none ∷ none ∷ none ∷ none ∷ none ∷ none ∷ []
unfolding counted counted_by
first_case = refl

-- after seven reads of which four came from memory
pub next_case : map (counted_by (counts 7 4)) (2 ∷ 3 ∷ 6 ∷ []) ≡ counts 8 5 ∷ counts 8 4 ∷ counts 7 4 ∷ []
unfolding counted counted_by
next_case = refl

-- one below the limit a read is counted still
pub below_limit_case :
    map (counted_by (counts 3999999999 3999999999)) (2 ∷ 3 ∷ []) ≡ counts 4000000000 4000000000 ∷ counts 4000000000 3999999999 ∷ []
unfolding counted counted_by
below_limit_case = refl

-- at the limit both counts stay, also where only answered reads would be above it
pub at_limit_case :
    map (counted_by (counts 4000000000 12)) (2 ∷ 3 ∷ []) ≡ counts 4000000000 12 ∷ counts 4000000000 12 ∷ []
unfolding counted counted_by
at_limit_case = refl

-- and where only the reads from memory would be above it, which the rules do not let be; a read from the store does not carry them further
pub hits_at_limit_case :
    map (counted_by (counts 12 4000000000)) (2 ∷ 3 ∷ []) ≡ counts 12 4000000000 ∷ counts 13 4000000000 ∷ []
unfolding counted counted_by
hits_at_limit_case = refl

-- counts that are above it already stay
pub above_limit_case :
    map (λ c. counted_by c 3) (counts 12 4000000001 ∷ counts 4294967295 4294967295 ∷ []) ≡ counts 12 4000000001 ∷ counts 4294967295 4294967295 ∷ []
unfolding counted counted_by
above_limit_case = refl

-- the rule: no more reads from memory than answered reads, and none above the limit
pub sound_case :
    map sound (none ∷ counts 7 7 ∷ counts 7 8 ∷ counts 0 1 ∷ counts 4000000000 4000000000 ∷ counts 4000000001 0 ∷ [])
    ≡ true ∷ true ∷ false ∷ false ∷ true ∷ false ∷ []
sound_case = refl

-- no answered read; none of three, one, two and all of them from memory: 1000 = 3 × 333 + 1 and 2000 = 3 × 666 + 2
pub share_case :
    map share (none ∷ counts 3 0 ∷ counts 3 1 ∷ counts 3 2 ∷ counts 3 3 ∷ [])
    ≡ reply 39 0 0 ∷ reply 0 0 0 ∷ reply 0 333 1 ∷ reply 0 666 2 ∷ reply 0 1000 0 ∷ []
unfolding share
share_case = refl

-- at the limit: all from memory; all but one, 3,999,999,999,000 = 4,000,000,000 × 999 + 3,999,999,000; one alone, which is below a thousandth
pub limit_share_case :
    map share (counts 4000000000 4000000000 ∷ counts 4000000000 3999999999 ∷ counts 4000000000 1 ∷ [])
    ≡ reply 0 1000 0 ∷ reply 0 999 3999999000 ∷ reply 0 0 1000 ∷ []
unfolding share
limit_share_case = refl

-- ---- the region

-- player 0 with these counts, player 7 with those, and zero counts between them
abbrev ends : ℕ → ℕ → ℕ → ℕ → List ℕ
ends a h a' h' = (a ∷ h ∷ []) ++ replicate 12 0 ++ (a' ∷ h' ∷ [])

-- the counts of players 0, 1 and 7, and of a number that is no player
pub counts_case : map (counts_of (ends 5 2 9 9)) (0 ∷ 1 ∷ 7 ∷ 8 ∷ []) ≡ counts 5 2 ∷ none ∷ counts 9 9 ∷ none ∷ []
unfolding counts_of
counts_case = refl

-- zero counts are 16 words 0, and other counts stand player by player
pub region_case :
    map region_of ((λ p. none) ∷ (λ p. counts p 0) ∷ [])
    ≡ replicate 16 0 ∷ (0 ∷ 0 ∷ 1 ∷ 0 ∷ 2 ∷ 0 ∷ 3 ∷ 0 ∷ 4 ∷ 0 ∷ 5 ∷ 0 ∷ 6 ∷ 0 ∷ 7 ∷ 0 ∷ []) ∷ []
unfolding words_from region_of
region_case = refl

-- 15 and 17 words are no region; the rule is broken at the first player, and at the last
pub valid_case :
    map valid (replicate 15 0 ∷ replicate 16 0 ∷ replicate 17 0 ∷ ends 5 5 9 9 ∷ ends 5 6 9 9 ∷ ends 5 5 9 10 ∷ ends 4000000000 0 4000000000 4000000000 ∷ ends 4000000001 0 0 0 ∷ ends 0 0 4000000001 0 ∷ [])
    ≡ false ∷ true ∷ false ∷ true ∷ false ∷ false ∷ true ∷ false ∷ false ∷ []
unfolding all_sound valid
valid_case = refl

-- a read from memory of players 0 and 7, one from the store, a reply that does not count, and 8, which is no player
pub counted_at_case :
    counted_at 0 2 (ends 5 2 9 9)
    ∷ counted_at 7 2 (ends 5 2 9 9)
    ∷ counted_at 0 3 (ends 5 2 9 9)
    ∷ counted_at 7 3 (ends 5 2 9 9)
    ∷ counted_at 0 1 (ends 5 2 9 9)
    ∷ counted_at 8 2 (ends 5 2 9 9)
    ∷ []
    ≡ ends 6 3 9 9 ∷ ends 5 2 10 10 ∷ ends 6 2 9 9 ∷ ends 5 2 10 9 ∷ ends 5 2 9 9 ∷ ends 5 2 9 9 ∷ []
unfolding counted counted_by counts_of counted_at
counted_at_case = refl

-- words of another number stay as they are
pub other_length_case : map (counted_at 0 2) (replicate 15 0 ∷ replicate 17 0 ∷ [] ∷ []) ≡ replicate 15 0 ∷ replicate 17 0 ∷ [] ∷ []
unfolding counted counted_by counts_of counted_at
other_length_case = refl

-- 28 before 39, and 39 before a share; a broken rule of player 0 is 22 whoever is asked for, and before 28; another number of words is 21 before all
pub shared_case :
    map (λ p. shared p (ends 5 2 9 9)) (0 ∷ 1 ∷ 7 ∷ 8 ∷ 255 ∷ []) ≡ reply 0 400 0 ∷ reply 39 0 0 ∷ reply 0 1000 0 ∷ reply 28 0 0 ∷ reply 28 0 0 ∷ []
unfolding share counts_of all_sound valid shared
shared_case = refl

pub broken_case :
    map (λ p. shared p (ends 5 6 9 9)) (0 ∷ 1 ∷ 7 ∷ 8 ∷ []) ≡ reply 22 0 0 ∷ reply 22 0 0 ∷ reply 22 0 0 ∷ reply 22 0 0 ∷ []
unfolding share counts_of all_sound valid shared
broken_case = refl

pub shared_length_case :
    map (shared 8) (replicate 15 7 ∷ (0 ∷ replicate 16 7) ∷ []) ≡ reply 21 0 0 ∷ reply 21 0 0 ∷ []
unfolding share counts_of all_sound valid shared
shared_length_case = refl
