-- What a step does to the players' table, and the words that its code reads and writes.
-- Assumes nothing.
use Rattle.std.specs.Prelude.{Result as Outcome, Ok, Err, ok_or, leb, ◌≡◌, Bool, true, false, cond, not, ◌&&◌, List, ℕ, zero, suc, ◌+◌, ◌-◌, ◌*◌, T, ltb, eqb, length, get_or, take, drop, set, replicate}
use borrow.Rule.Slice.PartMut.{put_mid}
use Rattle.store.specs.Model.{bad_range}
use Rattle.store.specs.declared.Range.{Range}
use Rattle.store.specs.declared.Reply.{Reply}
use Rattle.store.specs.declared.refusal.Refusal.{Refusal}
use Rattle.store.specs.declared.refusal.Refusal.TheVariants.{NoSerialLeft, NoPlaceLeft, NoSuchRequest}
use Rattle.requests.specs.declared.Request.{Request}
use Rattle.requests.specs.declared.Fit.{Fit}
use Rattle.requests.specs.declared.Found.{Found}
use Rattle.requests.specs.Shares.{turned_away, count_in}
use Rattle.requests.specs.Calls.{found, with_request, with_abandoned, without, Crossing, crossing, crossed}
use Rattle.players.specs.Replies.{out_of_range}
use Rattle.players.specs.Rules.{State, Result, check, need_serial, set_owner}
use Rattle.players.specs.Table.{epochs_at, counters_at, guards_at, held_at, owners_at, requests_at, values_at, versions_at, state_of, table_of, valid}
use Rattle.store.specs.Table.{store_words}
use Rattle.requests.specs.Region.{region_words}
use Rattle.counters.specs.Region.{counters_words, counted_at}

-- a step that leaves the store's table alone: what it does to a players' table that keeps the rules beside some store's
pub record Moves (f : State → Result) (t : List ℕ) (r : Reply) (t' : List ℕ) : Type 0 where
  pub moved : (st : List ℕ) → length st ≡ store_words → T (valid st t) → (r ≡ (f (state_of st t)).reply) × (t' ≡ table_of (f (state_of st t)).state)

-- steps 1 and 2, once the player is known to be one, or nobody
abbrev pub own : ℕ → Range → State → Result
own p g s = check s (bad_range g) out_of_range (need_serial s (set_owner s p g))

-- ---- what is read of a table

-- the guard that player p holds for entry e if it is live, else 0
unfoldable pub live_guard : List ℕ → ℕ → ℕ → ℕ
live_guard t p e =
    let g = get_or t (held_at + (p * 256 + e)) 0 in
    cond (not (eqb g 0) && (eqb (get_or t (owners_at + e) 0) p && ltb (get_or t (epochs_at + e) 0) g)) g 0

-- what player p has cached for entry e may be read
unfoldable pub hit : List ℕ → ℕ → ℕ → Bool
hit t p e =
    let g = get_or t (guards_at + (p * 256 + e)) 0 in
    not (eqb g 0) && eqb (live_guard t p e) g

-- each of n words from word i on is v
unfoldable pub all_are : ℕ → ℕ → ℕ → List ℕ → Bool
all_are v i zero t = true
all_are v i (suc n) t = eqb (get_or t i 0) v && all_are v (suc i) n t

-- the serial that comes next; 34 where the last was issued
abbrev pub next_serial : List ℕ → Outcome ℕ Refusal
next_serial t = cond (leb 4000000 (get_or t 0 0)) (Err NoSerialLeft) (Ok (get_or t 0 0 + 1))

-- that of one more request of player p, where these are the counts of those in flight; 38 where no place is left
abbrev pub next_request : List ℕ → ℕ → List ℕ → Outcome ℕ Refusal
next_request counts p t = cond (turned_away (count_in counts) p) (Err NoPlaceLeft) (next_serial t)

-- the first request with serial n, if it fits, and its place; 32 where none does
abbrev pub requested : Fit → ℕ → List ℕ → Outcome Found Refusal
requested f n t = ok_or (found f n (take region_words (drop requests_at t))) NoSuchRequest

-- ---- what is written to a table

-- the next serial is taken by a request, which place k holds
unfoldable pub added : ℕ → Request → List ℕ → List ℕ
added k r t =
    let u = set t 0 r.serial in
    put_mid requests_at region_words u (with_request k r (take region_words (drop requests_at u)))

-- where `b` tells that there are some, the player's pending reads and writes on the entry are marked overlapped; whether a write is among them
unfoldable pub crossed_table : Bool → ℕ → ℕ → List ℕ → Crossing
crossed_table b p e t =
    let x = crossed p e (take region_words (drop requests_at t)) in
    cond b (crossing x.hit (put_mid requests_at region_words t x.words)) (crossing false t)

-- the request of place k leaves if it is delivered, and is abandoned if not
unfoldable pub giving_up : ℕ → Bool → List ℕ → List ℕ
giving_up k delivered t =
    let w = take region_words (drop requests_at t) in
    put_mid requests_at region_words t (cond delivered (without k w) (with_abandoned k w))

-- the answer to a read of player p counted for it, by the code of its reply
unfoldable pub counted_table : ℕ → ℕ → List ℕ → List ℕ
counted_table p code t = put_mid counters_at counters_words t (counted_at p code (take counters_words (drop counters_at t)))

-- what is cached in cell i
unfoldable pub caching : ℕ → ℕ → ℕ → ℕ → List ℕ → List ℕ
caching i guard version value t = set (set (set t (guards_at + i) guard) (versions_at + i) version) (values_at + i) value

-- the words from b + lo up to b + hi become v
abbrev pub filled : ℕ → ℕ → ℕ → ℕ → List ℕ → List ℕ
filled b lo hi v t = put_mid (b + lo) (b + hi - (b + lo)) t (replicate (b + hi - (b + lo)) v)

-- the guards of cells lo up to hi cleared, each with what is cached under it
unfoldable pub cleared : ℕ → ℕ → List ℕ → List ℕ
cleared lo hi t = filled values_at lo hi 0 (filled versions_at lo hi 0 (filled guards_at lo hi 0 (filled held_at lo hi 0 t)))

-- of n cells from cell i on, those whose guard is g cleared
unfoldable pub dropped : ℕ → ℕ → ℕ → List ℕ → List ℕ
dropped g i zero t = t
dropped g i (suc n) t = dropped g (suc i) n (cond (eqb (get_or t (held_at + i) 0) g) (caching i 0 0 0 (set t (held_at + i) 0)) t)
