-- Rows for everyone (document 02 §5): the places that each player has of its own, and those that are common to all.
-- Assumes nothing.
use Rattle.std.specs.Prelude.{Bool, cond, ◌&&◌, ◌||◌, List, [], ◌∷◌, ℕ, zero, suc, ◌+◌, ◌-◌, leb, get_or}
use Rattle.requests.specs.declared.Request.{Request}
use Rattle.requests.specs.Model.{loader, by}

-- ‘Each of the eight players now has 6 rows of its own’
abbrev pub own_places : ℕ
own_places = 6

-- ‘the other 16 are common to the players and the loader’
abbrev pub common_places : ℕ
common_places = 16

-- how many requests a player, or the loader, has in flight: pending ones and those ‘given up’, delivered or not
abbrev pub count_by : ℕ → List Request → ℕ
count_by p [] = 0
count_by p (r ∷ rs) = cond (by p r) (suc (count_by p rs)) (count_by p rs)

-- ‘each player's above 6’, of the players below n together, where player p has c p requests
abbrev pub above_own : (ℕ → ℕ) → ℕ → ℕ
above_own c zero = 0
above_own c (suc n) = (c n - own_places) + above_own c n

-- ‘Common rows in use are the loader's rows plus each player's above 6’; the players are those below the loader
abbrev pub common : (ℕ → ℕ) → ℕ
common c = c loader + above_own c loader

-- the same of requests in flight, ‘given up or not’
abbrev pub common_used : List Request → ℕ
common_used rs = common (λ p. count_by p rs)

-- ‘Tables breaking these shares are 22’
abbrev pub shares_hold : List Request → Bool
shares_hold rs = leb (common_used rs) common_places

-- ‘38 when the player has 6 rows or more, or is the loader, and the 16 common rows are in use’, where player p has c p requests. No step asks for a
-- number above the loader's
abbrev pub turned_away : (ℕ → ℕ) → ℕ → Bool
turned_away c p = (leb loader p || leb own_places (c p)) && leb common_places (common c)

-- the same of requests in flight: no place is left for one more of the player
abbrev pub no_place : ℕ → List Request → Bool
no_place p rs = turned_away (λ q. count_by q rs) p

-- ---- the counts as nine numbers, which a pass over the places adds up

-- the requests of a list counted: those of each player, and the loader's; a number above the loader's has no count
abbrev pub counted : List Request → List ℕ
counted rs =
    count_by 0 rs ∷ count_by 1 rs ∷ count_by 2 rs ∷ count_by 3 rs ∷ count_by 4 rs ∷ count_by 5 rs ∷ count_by 6 rs ∷ count_by 7 rs ∷ count_by loader rs ∷ []

-- the count of player p among them
abbrev pub count_in : List ℕ → ℕ → ℕ
count_in cs p = get_or cs p 0
