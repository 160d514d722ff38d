-- What document 02 §2 says of a load beside the line: of its step, and of the steps that name it.
-- Assumes nothing.
use mathlib.Core.Path.{◌≡◌, refl, ap}
use mathlib.Core.Logic.{◌⊎◌, inl, inr, ⊎_elim}
use mathlib.Core.Bool.{Bool, true, false, cond, not, ◌&&◌, ◌||◌, and-false}
use mathlib.Core.List.{List, [], ◌∷◌, ◌++◌, map}
use Prim.Native.Nat.{ℕ, ◌+◌, ◌-◌, ◌≤◌, ◌<◌}
use native.Mathlib.Omega.{arith}
use borrow.Author.Tests.{eq-eqb, ne_eqb, lt-leb, eqb-true, eqb-false}
use lib.Dec.{T, leb, eqb}
use Rattle.store.specs.Model.{serials, open_guard, barred, within, tablet_first, tablet_end}
use Rattle.store.proofs.GuardChanges.{restart_inside}
use Rattle.requests.specs.declared.Request.{Request}
use Rattle.requests.specs.declared.Fit.{Fit}
use Rattle.requests.specs.declared.Fit.TheVariants.{Answerable, Pending}
use Rattle.requests.specs.Shares.{no_place}
use Rattle.requests.specs.Model.{loader, by, pending, is_guard_request, is_load, is_read, is_write, named, new_request, fits, serial_is, writing, using_entry, mark_overlapped, any, keep, find}
use Rattle.requests.specs.Region.{request_holds}
use Rattle.requests.proofs.Basics.{decide, both_left, cond_elim}
use Rattle.requests.proofs.Rising.{In, here, there, each_at, same_request}
use Rattle.requests.proofs.RequestRules.{form_of, load_fields}
use Rattle.players.specs.declared.Step.{Step}
use Rattle.players.specs.declared.Step.TheVariants.{Read, Write, Respond, Abandon, RestartTablet, RestartPlayer, Load}
use Rattle.players.specs.Replies.{first_refusal, refusal, issued, committed, rejected, out_of_range, no_such_request, no_place_left, no_serial_left}
use Rattle.players.specs.Kinds.{Fits}
use Rattle.players.specs.Rules.{State, Result, abandon, cache_hit, live, load, need_serial, on_request, owns, players, respond, step}
use Rattle.players.proofs.Tables.{Ok}
use Rattle.players.proofs.StepFacts.{PlaceLeft, check_elim}
use Rattle.players.proofs.StepCases.{step_ok}

-- the store, the owners, and the players' guards and cached values are as they were
pub record Untouched (s t : State) : Type 0 where
  pub store : t.store ≡ s.store
  pub owners : t.owners ≡ s.owners
  pub player : t.player ≡ s.player

-- ---- step 15

-- ‘reply 1: a row of kind 5 whose player is 8, carrying 0 … It is never overlapped and marks no row’: the requests are as they were, and one more
pub record Loaded (s : State) (e v : ℕ) (r : Result) : Type 0 where
  pub reply : r.reply ≡ issued (s.last + 1)
  pub requests : r.state.requests ≡ s.requests ++ (new_request (s.last + 1) loader 5 e 0 v open_guard false ∷ [])
  pub untouched : Untouched s r.state

-- ‘needing no ownership’: a place and a serial are enough
pub load_taken : (s : State) (e v : ℕ) → PlaceLeft s loader → Loaded s e v (step s (Load e v))
load_taken s e v w =
    rw (w.place, lt-leb serials s.last w.serial) (record { reply = refl; requests = refl; untouched = record { store = refl; owners = refl; player = refl } })

-- and only for want of them is it refused
pub load_refused : (s : State) (e v : ℕ) → let c = (step s (Load e v)).reply.code in first_refusal ≤ c → (c ≡ no_place_left) ⊎ (c ≡ no_serial_left)
load_refused s e v =
    check_elim Refused s (no_place loader s.requests) no_place_left (need_serial s (load s e v)) (λ _. inl refl)
    (λ _. check_elim Refused s (leb serials s.last) no_serial_left (load s e v) (λ _. inr refl) (λ _ h. absurd (omega arith)))
  where
    Refused : Result → Type 0
    Refused r = first_refusal ≤ r.reply.code → (r.reply.code ≡ no_place_left) ⊎ (r.reply.code ≡ no_serial_left)

-- ---- a load in flight

-- ‘of kind 5 …, carrying 0 … never overlapped’: each request of the loader in a sound state
pub record LoadOk (r : Request) : Type 0 where
  pub kind : r.kind ≡ 5
  pub guard : r.guard ≡ 0
  pub clear : r.overlapped ≡ false

pub loader_request : (s : State) → Ok s → (r : Request) → In r s.requests → r.player ≡ loader → LoadOk r
loader_request s k r m p =
    let f = load_fields r (eq-eqb r.player loader p) (form_of s.last r (each_at (λ q. T (request_holds s.last q)) 0 s.requests k.requests r m)).fields in
    record { kind = f.0; guard = f.1; clear = f.2 }

-- and so after every step: none marks a load
pub never_overlapped : (s : State) → Ok s → (x : Step) → Fits x → (r : Request) → In r (step s x).state.requests → r.player ≡ loader → LoadOk r
never_overlapped s k x f = loader_request (step s x).state (step_ok s k x f)

-- ---- a player's reads and writes beside loads

-- the requests that are no loads
abbrev no_loads : List Request → List Request
no_loads rs = keep (λ r. not (is_load r)) rs

-- whether a write of a player waits, without looking at the loads
writing_past : (p e : ℕ) → p < players → (rs : List Request) → any (writing p e) rs ≡ any (writing p e) (no_loads rs)
writing_past p e lt [] = refl
writing_past p e lt (r ∷ rs) =
    ⊎_elim
    (λ l.
    let z = eqb-true r.player loader l in
    let o : by p r ≡ false = ne_eqb r.player p (λ y. omega arith) in
    rw (l, o, and-false (is_write r), and-false (pending r)) (writing_past p e lt rs))
    (λ l. rw l (ap (λ (b : Bool). writing p e r || b) (writing_past p e lt rs)))
    (decide (is_load r))

-- a read is not overlapped for a load's sake
pub read_past_loads : (s : State) (p e : ℕ) → p < players → PlaceLeft s p → cache_hit s p e ≡ false
    → (step s (Read p e)).state.requests ≡ s.requests ++ (new_request (s.last + 1) p 4 e 0 0 (cond (live s p e) ((s.player p).held e) 0) (any (writing p e) (no_loads s.requests)) ∷ [])
read_past_loads s p e lt w h =
    rw (w.place, lt-leb players p lt, h, lt-leb serials s.last w.serial, ← writing_past p e lt s.requests)

-- nor is a write, and it marks none
pub write_past_loads : (s : State) (p e v : ℕ) → p < players → PlaceLeft s p → owns s p e ≡ true → live s p e ≡ true
    → (step s (Write p e v)).state.requests
    ≡ map (λ r. cond (not (is_load r) && using_entry p e r) (mark_overlapped r) r) s.requests ++ (new_request (s.last + 1) p 5 e 0 v ((s.player p).held e) (any (writing p e) (no_loads s.requests)) ∷ [])
write_past_loads s p e v lt w o l =
    rw (w.place, lt-leb players p lt, l, o, lt-leb serials s.last w.serial, ← writing_past p e lt s.requests)
    (ap (λ (l : List Request). l ++ (new_request (s.last + 1) p 5 e 0 v ((s.player p).held e) (any (writing p e) s.requests) ∷ [])) (marked_past s.requests))
  where
    unmarked_load : (r : Request) → using_entry p e r ≡ (not (is_load r) && using_entry p e r)
    unmarked_load r =
        ⊎_elim
        (λ y.
        let z = eqb-true r.player loader y in
        let n : by p r ≡ false = ne_eqb r.player p (λ x. omega arith) in
        rw (y, n, and-false (not (is_guard_request r)), and-false (pending r)))
        (λ y. rw y) (decide (is_load r))

    marked_past : (rs : List Request) → map (λ r. cond (using_entry p e r) (mark_overlapped r) r) rs ≡ map (λ r. cond (not (is_load r) && using_entry p e r) (mark_overlapped r) r) rs
    marked_past [] = refl
    marked_past (r ∷ rs) = rw (← unmarked_load r) (ap (λ (l : List Request). cond (using_entry p e r) (mark_overlapped r) r ∷ l) (marked_past rs))

-- ---- the steps that name it

-- ‘Its answer is 4 or 5 and no guard or cell follows from it’: by its outcome, once it is delivered and waits
pub record Answered (s : State) (r : Request) (x : Result) : Type 0 where
  pub reply : x.reply ≡ cond (eqb r.first 1) (committed r.serial r.value) (rejected r.serial)
  pub untouched : Untouched s x.state

module _ (s : State) (k : Ok s) (r : Request) (m : In r s.requests) (p : r.player ≡ loader) where
  -- its serial names it, and no other request
  named-load : (f : Fit) (go : Request → Result) → fits f r ≡ true → on_request s f r.serial go ≡ go r
  named-load f go t = found_in s.requests m (λ q i e. same_request (λ y. T (request_holds s.last y)) 0 s.requests k.requests q r i m e)
    where
      found_in : (rs : List Request) → In r rs → ((q : Request) → In q rs → q.serial ≡ r.serial → q ≡ r) → find (named f r.serial) rs (record { state = s; reply = refusal no_such_request }) go ≡ go r
      found_in (q ∷ rs) here u = rw (eq-eqb r.serial r.serial refl, t)
      found_in [] x'' u = elim x'' [ ]
      found_in (q ∷ rs) (there i) u =
          cond_elim (λ (x : Result). x ≡ go r) (named f r.serial q) _ _
          (λ y. ap go (u q here (eqb-true q.serial r.serial (both_left (serial_is r.serial q) (fits f q) y))))
          (λ _. found_in rs i (λ x j. u x (there j)))

  pub load_answered : fits Answerable r ≡ true → Answered s r (step s (Respond r.serial))
  load_answered t =
      let ok = loader_request s k r m p in
      let z = ok.kind in
      let a : is_guard_request r ≡ false = ne_eqb r.kind 3 (omega arith) in
      let b : is_read r ≡ false = ne_eqb r.kind 4 (omega arith) in
      let c : eqb r.guard 0 ≡ true = eq-eqb r.guard 0 ok.guard in
      let d : is_load r ≡ true = eq-eqb r.player loader p in
      rw (named-load Answerable (respond s) t, a, b)
      (⊎_elim
      (λ y. let one = eqb-true r.first 1 y in rw (eq-eqb r.first 1 one, c) (record { reply = rw (eq-eqb r.first 1 one); untouched = record { store = refl; owners = refl; player = refl } }))
      (λ y. let other = eqb-false r.first 1 y in rw (ne_eqb r.first 1 other, d) (record { reply = rw (ne_eqb r.first 1 other); untouched = record { store = refl; owners = refl; player = refl } }))
      (decide (eqb r.first 1)))

  -- nor from giving it up, delivered or not
  pub load_abandoned : fits Pending r ≡ true → Untouched s (step s (Abandon r.serial)).state
  load_abandoned t =
      let a : is_write r ≡ true = eq-eqb r.kind 5 (loader_request s k r m p).kind in
      let d : is_load r ≡ true = eq-eqb r.player loader p in
      rw (named-load Pending (abandon s) t, a, d) (record { store = refl; owners = refl; player = refl })

-- ---- restarts

-- ‘a restart sets a new mark, barred’: over each entry of the tablet
pub tablet_barred : (s : State) (e i : ℕ) → within (tablet_first s.store.boundary e) (tablet_end s.store.boundary e (255 - e)) i ≡ true → (step s (RestartTablet e)).state.store.guard i ≡ barred
tablet_barred s e i w = restart_inside s.store e i w

-- the loader does not restart
pub loader_restart : (s : State) → step s (RestartPlayer loader) ≡ record { state = s; reply = refusal out_of_range }
loader_restart s = refl
