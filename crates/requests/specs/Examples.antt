-- Worked cases of the lent list, of a search, of a pass over the requests, and of the shares.
-- Assumes nothing.
use Rattle.std.specs.Prelude.{◌≡◌, refl, Bool, true, false, cond, List, [], ◌∷◌, ◌++◌, map, ℕ, zero, suc, ◌+◌, ◌*◌, eqb, replicate}
use Rattle.store.specs.Calls.{reply}
use Rattle.store.specs.Table.{at_most}
use Rattle.requests.specs.declared.Request.{Request}
use Rattle.requests.specs.declared.LentRequest.{LentRequest}
use Rattle.requests.specs.declared.Fit.TheVariants.{Undelivered, Answerable, Pending, Abandoned}
use Rattle.requests.specs.Model.{places, loader, writing, using_entry, new_request, mark_abandoned, mark_delivered}
use Rattle.requests.specs.Shares.{own_places, common_places, turned_away, count_in}
use Rattle.requests.specs.Region.{request_of, requests_from, requests_of, placed, region_of, fields_hold, outcome_holds, request_holds, words_fit, places_hold, valid}
use Rattle.requests.specs.Answers.{gives, refused}
use Rattle.requests.specs.Calls.{found_numbers, scanned, overlapped_from, crossing, crossed}
use Rattle.requests.specs.Lent.{request, counts, one_more, counted, answer, waiting}

-- a read of entry 45, with these marks
abbrev place : ℕ → ℕ → ℕ → ℕ → ℕ → LentRequest
place serial player overlapped delivered abandoned =
    record { serial = serial; player = player; kind = 4; low = 45; high = 0; value = 0; guard = 0; overlapped = overlapped; delivered = delivered; abandoned = abandoned; first = 0; second = 0 }

abbrev marks : Request → List Bool
marks r = r.overlapped ∷ r.delivered ∷ r.abandoned ∷ []

-- 1, 2, 3 and 255 are marks that stand
pub marks_case :
    map (λ r. marks (request r)) (place 1 3 0 0 0 ∷ place 1 3 1 0 2 ∷ place 1 3 2 3 255 ∷ [])
    ≡ (false ∷ false ∷ false ∷ []) ∷ (true ∷ false ∷ true ∷ []) ∷ (true ∷ true ∷ true ∷ []) ∷ []
marks_case = refl

-- of seven requests and 57 places that are not used, two are pending ones of player 3: those with an abandoned mark of 1, 2, 3 or 255 are not
abbrev some_marked : List LentRequest
some_marked =
    (place 1 3 0 0 0 ∷ place 2 3 0 0 1 ∷ place 4 3 255 3 0 ∷ place 5 3 0 0 2 ∷ place 6 3 0 2 3 ∷ place 7 2 0 0 0 ∷ place 9 3 1 1 255 ∷ []) ++ replicate 57 (place 0 0 0 0 0)

pub waiting_case :
    map (λ p. waiting p some_marked) (3 ∷ 2 ∷ 0 ∷ 8 ∷ []) ≡ reply 0 2 0 ∷ reply 0 1 0 ∷ reply 0 0 0 ∷ reply 28 0 0 ∷ []
unfolding waiting answer counted one_more counts
waiting_case = refl

-- in a region with two requests: the second, which is delivered and pending, is found at place 1 where that fits, and others are not
abbrev two_requests : List ℕ
two_requests = region_of (request (place 1 3 0 0 0) ∷ request (place 4 2 0 1 0) ∷ [])

pub found_case :
    map (λ n. found_numbers Answerable n two_requests) (4 ∷ 1 ∷ 2 ∷ 0 ∷ []) ≡ gives (1 ∷ 4 ∷ 2 ∷ 4 ∷ 45 ∷ 0 ∷ 0 ∷ 0 ∷ 0 ∷ 1 ∷ 0 ∷ 0 ∷ 0 ∷ []) ∷ refused 32 ∷ refused 32 ∷ refused 32 ∷ []
unfolding request_of requests_from requests_of placed
found_case = refl

-- which of them each step that names a request fits, 6 to 9
pub fits_case :
    map (λ f. map (λ n. (found_numbers f n two_requests).code) (1 ∷ 4 ∷ [])) (Undelivered ∷ Answerable ∷ Pending ∷ Abandoned ∷ [])
    ≡ (0 ∷ 32 ∷ []) ∷ (32 ∷ 0 ∷ []) ∷ (0 ∷ 0 ∷ []) ∷ (32 ∷ 32 ∷ []) ∷ []
unfolding request_of requests_from requests_of placed
fits_case = refl

-- of two requests with one serial, which the rules do not let be, the first counts: it is not delivered
pub twice_case :
    map (λ f. (found_numbers f 4 (region_of (request (place 4 3 0 0 0) ∷ request (place 4 2 0 1 0) ∷ []))).code) (Undelivered ∷ Answerable ∷ []) ≡ 0 ∷ 32 ∷ []
unfolding request_of requests_from requests_of placed
twice_case = refl

-- a read of entry 45 by player 3 is not looked for by a read, and is by a write there
pub sought_case :
    map (λ f. scanned f (region_of (request (place 1 3 0 0 0) ∷ []))) (writing 3 45 ∷ using_entry 3 45 ∷ using_entry 3 44 ∷ [])
    ≡ map (λ b. record { used = 1; hit = b; counts = 0 ∷ 0 ∷ 0 ∷ 1 ∷ 0 ∷ 0 ∷ 0 ∷ 0 ∷ 0 ∷ [] }) (false ∷ true ∷ false ∷ [])
unfolding request_of requests_from requests_of placed
sought_case = refl

-- which marks it
pub crossed_case :
    map (λ e. crossed 3 e (region_of (request (place 1 3 0 0 0) ∷ []))) (45 ∷ 44 ∷ []) ≡ map (λ m. crossing false (region_of (request (place 1 3 m 0 0) ∷ []))) (1 ∷ 0 ∷ [])
unfolding request_of requests_from requests_of placed crossed overlapped_from
crossed_case = refl

-- n requests of a player, or of the loader, from a serial on: reads, and loads
abbrev some : ℕ → ℕ → ℕ → List Request
some p zero k = []
some p (suc n) k = new_request k p (cond (eqb p loader) 5 4) 45 0 0 0 false ∷ some p n (suc k)

-- the players' own places and the common ones are all
pub places_case : 8 * own_places + common_places ≡ places
places_case = refl

-- document 02 §5, ‘Tables breaking these shares are 22’: 22 requests of one player and 23, all pending, all given up, all delivered; 16 loads and 17; 8
-- common places of one player and 8 of another, and 8 and 9; 8, 7 and a load, and 8, 7 and two; all 64, and one that is another's instead
pub shares_case :
    map (λ rs. valid 64 (region_of rs))
    (some 0 22 1
    ∷ some 0 23 1
    ∷ map mark_abandoned (some 0 22 1)
    ∷ map mark_abandoned (some 0 23 1)
    ∷ map (mark_delivered 0 0) (some 0 22 1)
    ∷ map (mark_delivered 0 0) (some 0 23 1)
    ∷ some loader 16 1
    ∷ some loader 17 1
    ∷ (some 0 14 1 ++ some 7 14 15)
    ∷ (some 0 14 1 ++ some 7 15 15)
    ∷ (some 0 14 1 ++ some 1 13 15 ++ some loader 1 28)
    ∷ (some 0 14 1 ++ some 1 13 15 ++ some loader 2 28)
    ∷ (some 0 6 1 ++ some 1 6 7 ++ some 2 6 13 ++ some 3 22 19 ++ some 4 6 41 ++ some 5 6 47 ++ some 6 6 53 ++ some 7 6 59)
    ∷ (some 0 6 1 ++ some 1 6 7 ++ some 2 6 13 ++ some 3 22 19 ++ some 4 6 41 ++ some 5 6 47 ++ some 6 7 53 ++ some 7 5 60)
    ∷ [])
    ≡ true ∷ false ∷ true ∷ false ∷ true ∷ false ∷ true ∷ false ∷ true ∷ false ∷ true ∷ false ∷ true ∷ false ∷ []
unfolding request_of requests_from requests_of placed fields_hold outcome_holds request_holds words_fit places_hold valid at_most
shares_case = refl

-- the counts of a region, by player: the loader's are the ninth, and a number above it has none
abbrev some_counts : List ℕ
some_counts = (scanned (writing 0 9) (region_of (some 0 20 1 ++ some 1 5 21 ++ some 2 6 26 ++ some 9 1 32 ++ some loader 2 33))).counts

pub counts_case : map (count_in some_counts) (0 ∷ 1 ∷ 2 ∷ 3 ∷ 7 ∷ loader ∷ []) ≡ 20 ∷ 5 ∷ 6 ∷ 0 ∷ 0 ∷ 2 ∷ []
unfolding request_of requests_from requests_of placed
counts_case = refl

-- 14 and 2 common places are in use: no place is left for a 21st request of player 0 and a seventh of player 2, and one is for a sixth of player 1 and a
-- first of player 3; none for the loader, nor for a number above it
pub full_case : map (turned_away (count_in some_counts)) (0 ∷ 1 ∷ 2 ∷ 3 ∷ loader ∷ 9 ∷ []) ≡ true ∷ false ∷ true ∷ false ∷ true ∷ true ∷ []
unfolding request_of requests_from requests_of placed
full_case = refl
