-- What each call finds in a region, and does to it. A region that is not whole has no requests, and stays as it is.
-- Assumes nothing.
use Rattle.std.specs.Prelude.{◌≡◌, Option, Some, None, Bool, cond, not, ◌&&◌, List, [], ◌∷◌, ◌++◌, ℕ, zero, suc, ◌+◌, ◌-◌, ◌*◌, ltb, eqb, length, get_or, take, drop, set, replicate}
use Rattle.requests.specs.declared.Request.{Request}
use Rattle.requests.specs.declared.Fit.{Fit}
use Rattle.requests.specs.declared.Found.{Found}
use Rattle.requests.specs.declared.Scan.{Scan}
use Rattle.requests.specs.Model.{places, serial_is, by, pending, fits, writing, using_entry, any, find, mark_abandoned}
use Rattle.requests.specs.Shares.{counted}
use Rattle.requests.specs.Region.{request_of, whole, requests_of, words_of}
use Rattle.requests.specs.Answers.{Numbers, gives, refused, no_such_request}

-- ---- what is found

-- the answers of a search: r, at place k; none
abbrev pub At : ℕ → Request → Option Found
At k r = Some (record { place = k; request = r })

abbrev pub Nowhere : Option Found
Nowhere = None

-- the first request with serial n, if it fits, and its place, where the list's first is at place k
unfoldable pub found_from : Fit → ℕ → ℕ → List Request → Option Found
found_from f n k [] = Nowhere
found_from f n k (r ∷ rs) = cond (serial_is n r) (cond (fits f r) (At k r) Nowhere) (found_from f n (k + 1) rs)

abbrev pub found : Fit → ℕ → List ℕ → Option Found
found f n w = found_from f n 0 (requests_of w)

-- the numbers of each case of that answer: 0 with the place and the request's twelve words, or the refusal's number and two zeros
abbrev pub numbers : Option Found → Numbers
numbers (Some a) = gives (a.place ∷ words_of a.request)
numbers None = refused no_such_request

-- how many requests stand ahead of the first of which the test holds
abbrev pub ahead : (Request → Bool) → List Request → ℕ
ahead f [] = 0
ahead f (r ∷ rs) = cond (f r) 0 (ahead f rs + 1)

-- those of a region, by its requests alone
abbrev pub found_numbers : Fit → ℕ → List ℕ → Numbers
found_numbers f n w =
    find (serial_is n) (requests_of w) (refused no_such_request) (λ r. cond (fits f r) (gives (ahead (serial_is n) (requests_of w) ∷ words_of r)) (refused no_such_request))

-- what a search promises: the answer, and its numbers
pub record Finds (f : Fit) (n : ℕ) (w : List ℕ) (r : Option Found) : Type 0 where
  pub answer : r ≡ found f n w
  pub numbered : numbers r ≡ found_numbers f n w

-- what a pass tells: how many requests there are, whether the test holds of one, and the counts of all by player
abbrev pub scan_of : (Request → Bool) → List Request → Scan
scan_of f rs = record { used = length rs; hit = any f rs; counts = counted rs }

-- the same of a region
abbrev pub scanned : (Request → Bool) → List ℕ → Scan
scanned f w = scan_of f (requests_of w)

-- ---- one place changed

-- words written from index i on; what would fall past the end is dropped
unfoldable pub over : List ℕ → ℕ → List ℕ → List ℕ
over [] i vs = []
over (x ∷ l) zero [] = x ∷ l
over (x ∷ l) zero (v ∷ vs) = v ∷ over l zero vs
over (x ∷ l) (suc i) vs = x ∷ over l i vs

-- place k holds r
unfoldable pub with_request : ℕ → Request → List ℕ → List ℕ
with_request k r w = cond (whole w) (over w (k * 12) (words_of r)) w

-- the request of place k is abandoned
unfoldable pub with_abandoned : ℕ → List ℕ → List ℕ
with_abandoned k w = cond (whole w) (set w (k * 12 + 9) 1) w

-- the request of place k is delivered, with this outcome
unfoldable pub with_delivered : ℕ → ℕ → ℕ → List ℕ → List ℕ
with_delivered k a b w = cond (whole w) (set (set (set w (k * 12 + 8) 1) (k * 12 + 10) a) (k * 12 + 11) b) w

-- place k taken out: later places move down by one, and the last is 0 throughout
unfoldable pub closed : ℕ → List ℕ → List ℕ
closed k w = take (k * 12) w ++ (drop (k * 12 + 12) w ++ replicate 12 0)

unfoldable pub without : ℕ → List ℕ → List ℕ
without k w = cond (whole w && ltb k places) (closed k w) w

-- ---- all places changed

-- the words of a place, which stand first, with the overlapped mark where the test holds of its request
abbrev pub overlapped_words : (Request → Bool) → List ℕ → List ℕ
overlapped_words f w = cond (f (request_of w)) (set w 7 1) w

-- of n places, up to the first that is not used, those of which the test holds get the overlapped mark
unfoldable pub overlapped_from : (Request → Bool) → ℕ → List ℕ → List ℕ
overlapped_from f zero w = w
overlapped_from f (suc n) w = cond (eqb (get_or w 0 0) 0) w (take 12 (cond (f (request_of w)) (set w 7 1) w) ++ overlapped_from f n (drop 12 w))

-- whether a request is a pending write of the player on the entry, and the region after ‘marks this player's waiting reads and writes on the entry
-- overlapped’
pub record Crossing : Type 0 where
  pub hit : Bool
  pub words : List ℕ

abbrev pub crossing : Bool → List ℕ → Crossing
crossing b w = record { hit = b; words = w }

unfoldable pub crossed : ℕ → ℕ → List ℕ → Crossing
crossed p e w = crossing (any (writing p e) (requests_of w)) (cond (whole w) (overlapped_from (using_entry p e) places w) w)

-- a request remains when the player restarts: all but those of its pending ones that are delivered
abbrev pub remains : ℕ → Request → Bool
remains p r = not (by p r && (pending r && r.delivered))

-- it is abandoned if it is the player's
abbrev pub give_up : ℕ → Request → Request
give_up p r = cond (by p r) (mark_abandoned r) r

-- the words of a place, which stand first, after that
abbrev pub given_up_words : ℕ → List ℕ → List ℕ
given_up_words p w = take 12 (cond (by p (request_of w)) (set w 9 1) w)

-- the place for the next request, and the region, once place k has been carried over to place j
pub record Carried : Type 0 where
  pub next : ℕ
  pub words : List ℕ

abbrev pub carried : ℕ → List ℕ → Carried
carried j w = record { next = j; words = w }

unfoldable pub carry : ℕ → ℕ → ℕ → List ℕ → Carried
carry p j k w =
    let x = drop (k * 12) w in
    cond (remains p (request_of x)) (carried (j + 1) (over w (j * 12) (given_up_words p x))) (carried j w)

-- the words of the requests that remain, of n places up to the first that is not used
unfoldable pub remaining : ℕ → ℕ → List ℕ → List ℕ
remaining p zero w = []
remaining p (suc n) w =
    cond (eqb (get_or w 0 0) 0) []
    (cond (remains p (request_of w)) (given_up_words p w ++ remaining p n (drop 12 w)) (remaining p n (drop 12 w)))

-- the player restarts: those that remain stand first, and the places left of those that were used are 0
unfoldable pub restarted : ℕ → List ℕ → List ℕ
restarted p w =
    let l = remaining p places w in
    let n = length (requests_of w) * 12 in
    cond (whole w) (l ++ (replicate (n - length l) 0 ++ drop n w)) w
