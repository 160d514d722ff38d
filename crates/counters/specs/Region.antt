-- The counters region: 16 words, two for each of the eight players.
--     2 × player      its answered reads
--     2 × player + 1  those of them answered from memory
-- Assumes nothing.
use Rattle.std.specs.Prelude.{Bool, true, false, cond, ◌&&◌, List, [], ◌∷◌, ℕ, zero, suc, ◌+◌, ◌*◌, ltb, eqb, length, get_or, set}
use Rattle.store.specs.declared.Reply.{Reply}
use Rattle.store.specs.Calls.{reply}
use Rattle.counters.specs.declared.Counts.{Counts}
use Rattle.counters.specs.Model.{counts, counted_by, sound, share}

-- how many words a region has
abbrev pub counters_words : ℕ
counters_words = 16

-- ‘per player’: players 0 to 7
abbrev pub player_count : ℕ
player_count = 8

abbrev pub whole : List ℕ → Bool
whole t = eqb (length t) counters_words

abbrev pub is_player : ℕ → Bool
is_player p = ltb p player_count

-- ---- decoding

-- the counts of player p
unfoldable pub counts_of : List ℕ → ℕ → Counts
counts_of t p = counts (get_or t (p * 2) 0) (get_or t (p * 2 + 1) 0)

-- ---- encoding

-- the words of n players from player p on
unfoldable pub words_from : (ℕ → Counts) → ℕ → ℕ → List ℕ
words_from f p zero = []
words_from f p (suc n) = (f p).answered ∷ (f p).hits ∷ words_from f (suc p) n

-- the region that holds the counts of all players
unfoldable pub region_of : (ℕ → Counts) → List ℕ
region_of f = words_from f 0 player_count

-- ---- the rules

-- ‘A tally with more reads from memory than answered reads, or a count above that limit, is 22’: pair by pair; a word left over is no pair
unfoldable pub all_sound : List ℕ → Bool
all_sound [] = true
all_sound (answered ∷ []) = false
all_sound (answered ∷ hits ∷ t) = sound (counts answered hits) && all_sound t

-- a region keeps the rules
unfoldable pub valid : List ℕ → Bool
valid t = whole t && all_sound t

-- ---- the calls

-- the two words of player p set to these counts
abbrev pub with_counts : ℕ → Counts → List ℕ → List ℕ
with_counts p c t = set (set t (p * 2) c.answered) (p * 2 + 1) c.hits

-- ‘one tally is lent to each step and brought up to date there’: by the code of its reply to player p; a region that is not whole stays as it is,
-- and so does one for a number that is no player
unfoldable pub counted_at : ℕ → ℕ → List ℕ → List ℕ
counted_at p code t = cond (whole t && is_player p) (with_counts p (counted_by (counts_of t p) code) t) t

-- the share of player p; ‘39 .. after 28’
unfoldable pub shared : ℕ → List ℕ → Reply
shared p t =
    cond (whole t) (cond (valid t) (cond (is_player p) (share (counts_of t p)) (reply 28 0 0)) (reply 22 0 0)) (reply 21 0 0)
