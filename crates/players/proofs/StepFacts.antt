-- What the tests of a step have shown, as facts, and names for the states that steps leave.
-- Assumes nothing.
use mathlib.Core.Path.{◌≡◌, refl}
use mathlib.Core.Logic.{◌≢◌, ⊎_elim}
use mathlib.Core.Bool.{Bool, true, false, cond, not, ◌&&◌}
use mathlib.Core.List.{List}
use Prim.Native.Nat.{ℕ, zero, suc, ◌+◌, ◌-◌, ◌≤◌, ◌<◌}
use native.Mathlib.Omega.{arith}
use borrow.Author.Tests.{leb-true, leb-false, ltb-true, eqb-true, eqb-false, not-true, not-false}
use lib.Dec.{leb, ltb, eqb}
use Rattle.store.specs.Model.{Store, entries, serials, bad_range}
use Rattle.store.specs.declared.Range.{Range}
use Rattle.requests.specs.declared.Request.{Request}
use Rattle.requests.specs.Shares.{no_place}
use Rattle.requests.specs.Model.{drop_request, change_request, mark_delivered, mark_abandoned}
use Rattle.players.specs.Replies.{refusal}
use Rattle.players.specs.Rules.{State, Result, check, players, every, cache_hit, owns, live, with_requests, with_store, still_owned, may_cache}
use Rattle.requests.proofs.Basics.{decide, both_left as and_left, both_right as and_right}
use Rattle.requests.proofs.Rising.{In}

-- ---- names for the states that a delivery and an abandoning leave

-- the requests once r is delivered with outcome a, b
abbrev pub requests_after_delivery : State → Request → ℕ → ℕ → List Request
requests_after_delivery s r a b = cond r.abandoned (drop_request r.serial s.requests) (change_request r.serial (mark_delivered a b) s.requests)

-- and the state, with the store st
abbrev pub after_delivery : State → Request → Store → ℕ → ℕ → State
after_delivery s r st a b = with_requests (with_store s st) (requests_after_delivery s r a b)

-- r is marked abandoned
abbrev pub marked : State → Request → State
marked s r = with_requests s (change_request r.serial mark_abandoned s.requests)

-- ---- choices

pub check_elim : (P : Result → Type 0) (s : State) (b : Bool) (n : ℕ) (x : Result) → P (record { state = s; reply = refusal n }) → (b ≡ false → P x) → P (check s b n x)
check_elim P s true n x p f = p
check_elim P s false n x p f = f refl

pub every_at : (lo n : ℕ) (f : ℕ → Bool) (e : ℕ) → every lo n f ≡ true → lo ≤ e → e < lo + n → f e ≡ true
every_at lo zero f e h a b = absurd (omega arith)
every_at lo (suc n) f e h a b =
    ⊎_elim (λ t. let z : e ≡ lo = eqb-true e lo t in rw z (and_left (f lo) (every (suc lo) n f) h))
    (λ t. let z : e ≢ lo = eqb-false e lo t in every_at (suc lo) n f e (and_right (f lo) (every (suc lo) n f) h) (omega arith) (omega arith)) (decide (eqb e lo))

-- ---- what the tests have shown

-- the player's guard for the entry is live
pub record Live (s : State) (p e : ℕ) : Type 0 where
  pub set : (s.player p).held e ≢ 0
  pub owner : s.owners.owner e ≡ p
  pub epoch : s.owners.epoch e < (s.player p).held e

-- a range that is not refused
pub record Good (g : Range) : Type 0 where
  pub low : g.low < g.high
  pub high : g.high ≤ entries

-- a serial is left; a place for the player, or the loader, and a serial are left
abbrev pub SerialLeft : State → Type 0
SerialLeft s = s.last < serials

pub record PlaceLeft (s : State) (p : ℕ) : Type 0 where
  pub place : no_place p s.requests ≡ false
  pub serial : SerialLeft s

-- the request with serial n
pub record Named (s : State) (r : Request) (n : ℕ) : Type 0 where
  pub member : In r s.requests
  pub serial : r.serial ≡ n

-- the same, not delivered
pub record Undelivered (s : State) (r : Request) (n : ℕ) : Type 0 where
  pub member : In r s.requests
  pub serial : r.serial ≡ n
  pub undelivered : r.delivered ≡ false

-- delivered and pending
pub record Answerable (s : State) (r : Request) (n : ℕ) : Type 0 where
  pub member : In r s.requests
  pub serial : r.serial ≡ n
  pub delivered : r.delivered ≡ true
  pub pending : r.abandoned ≡ false

-- the player of a guard request still owns its range
abbrev pub StillOwned : State → Request → Type 0
StillOwned s r = (e : ℕ) → r.low ≤ e → e < r.high → (s.owners.owner e ≡ r.player) × (s.owners.epoch e < r.serial)

-- the result of a read or write may be cached
pub record MayCache (s : State) (r : Request) : Type 0 where
  pub guard : r.guard ≡ (s.player r.player).held r.low
  pub live : Live s r.player r.low
  pub clear : r.overlapped ≡ false

-- what the player has cached for the entry may be read
pub record CacheHit (s : State) (p e : ℕ) : Type 0 where
  pub guard : ((s.player p).cached e).guard ≡ (s.player p).held e
  pub live : Live s p e

-- ---- the tests of the rules as facts

pub live_shown : (s : State) (p e : ℕ) → live s p e ≡ true → Live s p e
live_shown s p e h =
    let g = (s.player p).held e in
    let a = not (eqb g 0) in
    let b = owns s p e in
    let c = ltb (s.owners.epoch e) g in
    let k = and_right a (b && c) h in
    record { set = eqb-false g 0 (not-true (eqb g 0) (and_left a (b && c) h)); owner = eqb-true (s.owners.owner e) p (and_left b c k); epoch = ltb-true (s.owners.epoch e) g (and_right b c k) }

pub cache_hit_shown : (s : State) (p e : ℕ) → cache_hit s p e ≡ true → CacheHit s p e
cache_hit_shown s p e h =
    let c = ((s.player p).cached e).guard in
    let g = (s.player p).held e in
    let t = and_right (not (eqb c 0)) (eqb c g && live s p e) h in
    record { guard = eqb-true c g (and_left (eqb c g) (live s p e) t); live = live_shown s p e (and_right (eqb c g) (live s p e) t) }

pub still_owned_shown : (s : State) (r : Request) → still_owned s r ≡ true → StillOwned s r
still_owned_shown s r h e a b =
    let own = owns s r.player e in
    let old = ltb (s.owners.epoch e) r.serial in
    let t = every_at r.low (r.high - r.low) (λ y. owns s r.player y && ltb (s.owners.epoch y) r.serial) e h a (omega arith) in
    (eqb-true (s.owners.owner e) r.player (and_left own old t), ltb-true (s.owners.epoch e) r.serial (and_right own old t))

pub may_cache_shown : (s : State) (r : Request) → may_cache s r ≡ true → MayCache s r
may_cache_shown s r t =
    let t0 = not (eqb r.guard 0) in
    let t1 = eqb r.guard ((s.player r.player).held r.low) in
    let t2 = live s r.player r.low in
    let t3 = not r.overlapped in
    let u1 = and_right t0 (t1 && (t2 && t3)) t in
    let u2 = and_right t1 (t2 && t3) u1 in
    record { guard = eqb-true r.guard ((s.player r.player).held r.low) (and_left t1 (t2 && t3) u1); live = live_shown s r.player r.low (and_left t2 t3 u2); clear = not-true r.overlapped (and_right t2 t3 u2) }

pub good_shown : (g : Range) → bad_range g ≡ false → Good g
good_shown g h =
    let t = not-false (ltb g.low g.high && leb g.high entries) h in
    record { low = ltb-true g.low g.high (and_left (ltb g.low g.high) (leb g.high entries) t); high = leb-true g.high entries (and_right (ltb g.low g.high) (leb g.high entries) t) }

pub player_shown : (p : ℕ) → leb players p ≡ false → p < players
player_shown p h = leb-false players p h
