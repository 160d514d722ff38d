-- The requests in flight as a lent list of records: "one thin call counts a player's waiting rows (21 unless 64 places, then 28; nothing
-- else is tested)".
-- Assumes nothing.
use Rattle.std.specs.Prelude.{Bool, cond, not, ◌&&◌, List, [], ◌∷◌, ℕ, ◌+◌, ltb, eqb, length}
use Rattle.store.specs.Calls.{reply}
use Rattle.store.specs.declared.Reply.{Reply}
use Rattle.requests.specs.declared.Request.{Request}
use Rattle.requests.specs.declared.LentRequest.{LentRequest}
use Rattle.requests.specs.Model.{places, by, pending}
use Rattle.requests.specs.Region.{bit}

-- a mark stands where its number is not 0
abbrev pub marked : ℕ → Bool
marked n = not (eqb n 0)

-- the request of a place
abbrev pub request : LentRequest → Request
request r =
    record { serial = r.serial; player = r.player; kind = r.kind; low = r.low; high = r.high; value = r.value; guard = r.guard; overlapped = marked r.overlapped; delivered = marked r.delivered; abandoned = marked r.abandoned; first = r.first; second = r.second }

-- the place of a request: a mark that stands is 1
abbrev pub place_of : Request → LentRequest
place_of r =
    record { serial = r.serial; player = r.player; kind = r.kind; low = r.low; high = r.high; value = r.value; guard = r.guard; overlapped = bit r.overlapped; delivered = bit r.delivered; abandoned = bit r.abandoned; first = r.first; second = r.second }

-- a place is used, and holds a pending request of the player
unfoldable pub counts : ℕ → LentRequest → Bool
counts p r = not (eqb r.serial 0) && (by p (request r) && pending (request r))

-- the count after one place more; it stays at the largest number of 32 bits, which no list of 64 places reaches
unfoldable pub one_more : ℕ → ℕ → LentRequest → ℕ
one_more p n r = cond (counts p r) (cond (ltb n 4294967295) (n + 1) n) n

-- the count after all the places of a list
unfoldable pub counted : ℕ → ℕ → List LentRequest → ℕ
counted p n [] = n
counted p n (r ∷ rs) = counted p (one_more p n r) rs

-- the reply for a list of so many places
unfoldable pub answer : ℕ → ℕ → ℕ → Reply
answer m p n = cond (eqb m places) (cond (ltb 7 p) (reply 28 0 0) (reply 0 n 0)) (reply 21 0 0)

-- the reply for a list
unfoldable pub waiting : ℕ → List LentRequest → Reply
waiting p rs = answer (length rs) p (counted p 0 rs)
