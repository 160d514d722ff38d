-- The player's six steps and the read that comes next, each on a state that others have left as `After` says.
-- Assumes nothing.
use mathlib.Core.Path.{◌≡◌, refl, sym, ap, ◌∙◌, subst}
use mathlib.Core.Logic.{◌≢◌}
use mathlib.Core.Bool.{Bool, true, false, cond, not, ◌&&◌, ◌||◌}
use mathlib.Core.List.{List, [], ◌∷◌, ◌++◌, map}
use Prim.Native.Nat.{ℕ, ◌+◌, ◌≤◌, ◌<◌}
use native.Mathlib.Omega.{arith}
use borrow.Author.Tests.{eqb-true, ne_eqb, eq-eqb, not-true, lt-ltb, lt-leb}
use lib.Dec.{eqb, ltb, leb}
use Rattle.store.specs.Model.{serials, put, fill, within, bad_range, one_tablet, guarded}
use Rattle.store.specs.declared.Range.{Range}
use Rattle.requests.specs.declared.Request.{Request}
use Rattle.requests.specs.declared.Fit.{Fit}
use Rattle.requests.specs.declared.Fit.TheVariants.{Undelivered, Answerable}
use Rattle.requests.specs.Model.{any, keep, find, by, pending, is_guard_request, is_write, fits, serial_is, drop_request, change_request, mark_delivered, writing, requesting, new_request}
use Rattle.requests.specs.Shares.{no_place}
use Rattle.requests.proofs.ShareLaws.{own_place_left}
use Rattle.players.specs.declared.Step.TheVariants.{RequestGuard, Read, Deliver, Respond}
use Rattle.players.specs.Replies.{issued, done, granted, store_read, cache_read, refusal, out_of_range, not_owner, already_requested, no_such_request, no_place_left, no_serial_left}
use Rattle.players.specs.Rules.{State, Player, Cached, Result, step, check, need_serial, need_place, on_request, players, all_entries, owns, live, cache_hit, with_requests, issue, request_guard, read_from_store, settled, deliver, deliver_read, respond, still_owned, may_cache, removed, grant, with_count, counting, with_cached, cleared, empty}
use Rattle.linearizable.proofs.Tests.{and-true, clash, cond_elim, cond-true, cond-false, put_same}
use Rattle.linearizable.proofs.RequestLists.{In, all_map, all_keep, all_append}
use Rattle.first_read.proofs.Lists.{none_any, keep_changed, keep-append, keep_nothing, find_kept, none_counted}
use Rattle.first_read.proofs.Ranges.{InRange, entries_all, Undivided, undivided_one}
use Rattle.first_read.proofs.Frame.{Numbered, After}

-- a test that does not refuse
passed : (s : State) (b : Bool) (n : ℕ) (x : Result) → b ≡ false → check s b n x ≡ x
passed s b n x h = ap (λ c. check s c n x) h

-- two tests, and one that fails
third_fails : (a b : Bool) → (a && (b && false)) ≡ false
third_fails true true = refl
third_fails true false = refl
third_fails false b = refl

-- the serials of no request, and of one
abbrev pub none : ℕ → Bool
none m = false

abbrev pub only : ℕ → ℕ → Bool
only n m = eqb m n

module _ (p : ℕ) (is_player : p < players) (g : Range) where
  -- where the player stands between two of its steps: its requests are rs, with the serials that `own` tells, its guards and cached values in the range those of pl, and the epochs
  -- of the range are below n
  pub record Phase (own : ℕ → Bool) (rs : List Request) (pl : Player) (n : ℕ) (s : State) : Type 0 where
    pub numbered : Numbered p is_player g own s
    pub requests : keep (by p) s.requests ≡ rs
    pub held : (e : ℕ) → InRange g e → (s.player p).held e ≡ pl.held e
    pub cached : (e : ℕ) → InRange g e → (s.player p).cached e ≡ pl.cached e
    pub owner : (e : ℕ) → InRange g e → s.owners.owner e ≡ p
    pub epoch : (e : ℕ) → InRange g e → s.owners.epoch e < n
    pub undivided : Undivided g s.store

  -- what others do changes nothing of it
  pub phase_after : {own : ℕ → Bool} {rs : List Request} {pl : Player} {n : ℕ} {s t : State} → Phase own rs pl n s → After p is_player g own s t → Phase own rs pl n t
  phase_after f a =
      record {
        numbered = a.numbered;
        requests = a.requests ∙ f.requests;
        held = λ e w. a.held e w ∙ f.held e w;
        cached = λ e w. a.cached e w ∙ f.cached e w;
        owner = λ e w. a.owner e w ∙ f.owner e w;
        epoch = λ e w. rw (a.epoch e w) (f.epoch e w);
        undivided = λ e l h. a.boundary e l h (f.undivided e l h);
      }

  -- ---- the player's requests

  module _ (s : State) where
    -- one is added to none
    module _ (c : Numbered p is_player g none s) (q : Request) (z : q.serial ≡ s.last + 1) (y : q.player ≡ p) where
      added_numbered : (t : State) → t.last ≡ s.last + 1 → t.requests ≡ s.requests ++ (q ∷ []) → Numbered p is_player g (only (s.last + 1)) t
      added_numbered t l m =
          record {
            below = λ r i. let k = (each r (rw m at i)).0 in omega arith;
            listed = λ j h. let k = eqb-true j (s.last + 1) h in omega arith;
            matched = λ r i. (each r (rw m at i)).1;
          }
        where
          each : (r : Request) → In r (s.requests ++ (q ∷ [])) → (r.serial ≤ s.last + 1) × (by p r ≡ eqb r.serial (s.last + 1))
          each =
              all_append (λ r. (r.serial ≤ s.last + 1) × (by p r ≡ eqb r.serial (s.last + 1))) s.requests q
              (λ r i. let k = c.below r i in (omega arith, c.matched r i ∙ sym (ne_eqb r.serial (s.last + 1) (λ z. absurd (omega arith)))))
              (omega arith, eq-eqb q.player p y ∙ sym (eq-eqb q.serial (s.last + 1) z))

      added_requests : keep (by p) (s.requests ++ (q ∷ [])) ≡ q ∷ []
      added_requests = keep-append (by p) s.requests q ∙ rw (keep_nothing (by p) s.requests c.matched, eq-eqb q.player p y)

    -- it has one
    module _ (n : ℕ) (c : Numbered p is_player g (only n) s) where
      -- which is found by its serial
      found : (r : Request) → keep (by p) s.requests ≡ r ∷ [] → (f : Fit) (go : Request → Result) → fits f r ≡ true → on_request s f n go ≡ go r
      found r k f go h =
          let no : Result = record { state = s; reply = refusal no_such_request } in
          find_kept (by p) (serial_is n) (fits f) s.requests no go c.matched ∙ ap (λ l. find (fits f) l no go) k ∙ ap (λ b. cond b (go r) no) h

      -- is delivered
      delivered_requests : (a b : ℕ) (r : Request) → keep (by p) s.requests ≡ r ∷ [] → keep (by p) (change_request n (mark_delivered a b) s.requests) ≡ mark_delivered a b r ∷ []
      delivered_requests a b r k = keep_changed (by p) (serial_is n) (mark_delivered a b) s.requests (λ r. refl) c.matched ∙ ap (map (mark_delivered a b)) k

      delivered_numbered : (a b : ℕ) (t : State) → t.last ≡ s.last → t.requests ≡ change_request n (mark_delivered a b) s.requests → Numbered p is_player g (only n) t
      delivered_numbered a b t l m =
          record { below = λ r i. let k = (each r (rw m at i)).0 in omega arith; listed = λ j h. let k = c.listed j h in omega arith; matched = λ r i. (each r (rw m at i)).1 }
        where
          Fine : Request → Type 0
          Fine r = (r.serial ≤ s.last) × (by p r ≡ eqb r.serial n)

          each : (r : Request) → In r (change_request n (mark_delivered a b) s.requests) → Fine r
          each =
              all_map Fine (λ r. cond (serial_is n r) (mark_delivered a b r) r) s.requests
              (λ r i. cond_elim Fine (serial_is n r) (mark_delivered a b r) r (λ _. (c.below r i, c.matched r i)) (λ _. (c.below r i, c.matched r i)))

      -- and leaves
      gone : (r : Request) → In r (drop_request n s.requests) → (r.serial ≤ s.last) × (by p r ≡ false)
      gone = all_keep (λ r. (r.serial ≤ s.last) × (by p r ≡ false)) (λ r. not (serial_is n r)) s.requests (λ r i t. (c.below r i, c.matched r i ∙ not-true (serial_is n r) t))

      gone_requests : keep (by p) (drop_request n s.requests) ≡ []
      gone_requests = keep_nothing (by p) (drop_request n s.requests) (λ r i. (gone r i).1)

      gone_numbered : (t : State) → t.last ≡ s.last → t.requests ≡ drop_request n s.requests → Numbered p is_player g none t
      gone_numbered t l m = record { below = λ r i. let k = (gone r (rw m at i)).0 in omega arith; listed = λ j h. clash h refl; matched = λ r i. (gone r (rw m at i)).1 }

  -- ---- what the steps test

  -- a serial is left, and a place for a player without requests
  let_in : (s : State) → Numbered p is_player g none s → s.last < serials → (x : Result) → need_place s p x ≡ x
  let_in s c l x =
      let z = none_counted p s.requests c.matched in
      passed s (no_place p s.requests) no_place_left (need_serial s x) (own_place_left p s.requests is_player (omega arith))
      ∙ passed s (leb serials s.last) no_serial_left x (lt-leb serials s.last l)

  module _ {own : ℕ → Bool} {rs : List Request} {pl : Player} {n : ℕ} (s : State) (f : Phase own rs pl n s) where
    is_owner : (e : ℕ) → InRange g e → owns s p e ≡ true
    is_owner e w = eq-eqb (s.owners.owner e) p (f.owner e w)

    owned_since : (e : ℕ) → InRange g e → (owns s p e && ltb (s.owners.epoch e) n) ≡ true
    owned_since e w = and-true (owns s p e) (ltb (s.owners.epoch e) n) (is_owner e w) (lt-ltb (s.owners.epoch e) n (f.epoch e w))

    -- a guard n that the player has at an entry of the range is live
    lives : (e : ℕ) → InRange g e → pl.held e ≡ n → n ≢ 0 → live s p e ≡ true
    lives e w h z =
        let k : (s.player p).held e ≡ n = f.held e w ∙ h in
        rw k (and-true (not (eqb n 0)) (owns s p e && ltb (s.owners.epoch e) n) (ap not (ne_eqb n 0 z)) (owned_since e w))

  -- ---- the guard

  -- the guard request n
  abbrev pub guard_request : ℕ → Request
  guard_request n = new_request n p 3 g.low g.high 0 0 false

  -- ‘asked for’: 1
  module _ {pl : Player} (s : State) (f : Phase none [] pl (s.last + 1) s) (good : bad_range g ≡ false) (left : s.last < serials) where
    requests_it : step s (RequestGuard p g) ≡ request_guard s p g
    requests_it =
        passed s (leb players p || bad_range g) out_of_range _ (rw (lt-leb players p is_player, good))
        ∙ passed s (not (all_entries (owns s p) g.low g.high)) not_owner _ (ap not (entries_all g (owns s p) (is_owner s f)))
        ∙ passed s (any (requesting p g) s.requests) already_requested _ (none_any (requesting p g) s.requests (λ r i. let t = f.numbered.matched r i in rw t (third_fails (pending r) (is_guard_request r))))
        ∙ let_in s f.numbered left (request_guard s p g)

    abbrev pub Requested : Result → Type 0
    Requested x = (x.reply ≡ issued x.reply.a) × (x.reply.a ≢ 0) × Phase (only x.reply.a) (guard_request x.reply.a ∷ []) (cleared g.low g.high pl) x.reply.a x.state

    pub request_step : Requested (step s (RequestGuard p g))
    request_step =
        subst Requested (sym requests_it) (
          refl,
          (λ z. omega arith),
          record {
            numbered = added_numbered s f.numbered (guard_request (s.last + 1)) refl refl (request_guard s p g).state refl refl;
            requests = added_requests s f.numbered (guard_request (s.last + 1)) refl refl;
            held = λ e w. ap (λ (x : Player). x.held e) player ∙ filled 0 (s.player p).held pl.held e w;
            cached = λ e w. ap (λ (x : Player). x.cached e) player ∙ filled empty (s.player p).cached pl.cached e w;
            owner = f.owner;
            epoch = f.epoch;
            undivided = f.undivided;
          },
        )
      where
        player : (request_guard s p g).state.player p ≡ cleared g.low g.high (s.player p)
        player = put_same p (cleared g.low g.high (s.player p)) s.player

        filled : {A : Type 0} (a : A) (h k : ℕ → A) (e : ℕ) → InRange g e → fill g.low g.high a h e ≡ fill g.low g.high a k e
        filled a h k e w = cond-true (within g.low g.high e) a (h e) w ∙ sym (cond-true (within g.low g.high e) a (k e) w)

  -- ‘arrived’: 0, and the guard is set, as the range lies in one tablet still
  pub deliver-step : {pl : Player} (n : ℕ) (s : State) → Phase (only n) (guard_request n ∷ []) pl n s → let x = step s (Deliver n) in (x.reply ≡ done) × Phase (only n) (mark_delivered 1 0 (guard_request n) ∷ []) pl n x.state
  deliver-step {pl} n s f =
      let set : Result = settled s (guard_request n) (guarded s.store g.low g.high n) 1 0 in
      subst (λ (x : Result). (x.reply ≡ done) × Phase (only n) (mark_delivered 1 0 (guard_request n) ∷ []) pl n x.state)
      (sym (found s n f.numbered (guard_request n) f.requests Undelivered (deliver s) refl ∙ cond-true (one_tablet s.store g.low g.high) _ _ (undivided_one g s.store f.undivided))) (
        refl,
        record {
          numbered = delivered_numbered s n f.numbered 1 0 set.state refl refl;
          requests = delivered_requests s n f.numbered 1 0 (guard_request n) f.requests;
          held = f.held;
          cached = f.cached;
          owner = f.owner;
          epoch = f.epoch;
          undivided = f.undivided;
        },
      )

  -- the player once guard n is granted
  abbrev pub granted_to : ℕ → Player → Player
  granted_to n pl = record { held = fill g.low g.high n pl.held; cached = pl.cached }

  -- ‘and answered’: 6, as it owns the range still, with the epochs that were there at the asking
  pub answer-step : {pl : Player} (n : ℕ) (s : State) → Phase (only n) (mark_delivered 1 0 (guard_request n) ∷ []) pl n s → let x = step s (Respond n) in (x.reply ≡ granted n) × Phase none [] (granted_to n pl) n x.state
  answer-step {pl} n s f =
      let r = mark_delivered 1 0 (guard_request n) in
      let t = grant (removed s r) p g.low g.high n in
      let player : t.player p ≡ granted_to n (s.player p) = put_same p (granted_to n (s.player p)) s.player in
      subst (λ (x : Result). (x.reply ≡ granted n) × Phase none [] (granted_to n pl) n x.state)
      (sym (found s n f.numbered r f.requests Answerable (respond s) refl ∙ cond-true (still_owned s r) _ _ (entries_all g (λ e. owns s p e && ltb (s.owners.epoch e) n) (owned_since s f)))) (
        refl,
        record {
          numbered = gone_numbered s n f.numbered t refl refl;
          requests = gone_requests s n f.numbered;
          held = λ e w. ap (λ (x : Player). x.held e) player ∙ cond-true (within g.low g.high e) n ((s.player p).held e) w ∙ sym (cond-true (within g.low g.high e) n (pl.held e) w);
          cached = λ e w. ap (λ (x : Player). x.cached e) player ∙ f.cached e w;
          owner = f.owner;
          epoch = f.epoch;
          undivided = f.undivided;
        },
      )

  -- ---- the read of an entry, under guard n

  module _ (e n : ℕ) (w : InRange g e) (z : n ≢ 0) where
    -- the read m
    abbrev pub reading : ℕ → Request
    reading m = new_request m p 4 e 0 0 n false

    -- ‘read’: 1, as nothing is cached for the entry; it carries the guard
    module _ {pl : Player} (s : State) (f : Phase none [] pl n s) (left : s.last < serials) (held : pl.held e ≡ n) (nothing : pl.cached e ≡ empty) where
      abbrev sent : ℕ → Bool → Result
      sent k b = record { state = with_requests (issue s) (s.requests ++ (new_request (s.last + 1) p 4 e 0 0 k b ∷ [])); reply = issued (s.last + 1) }

      reads : step s (Read p e) ≡ sent n false
      reads =
          passed s (leb players p) out_of_range _ (lt-leb players p is_player)
          ∙ cond-false (cache_hit s p e) _ _ (rw (ap (λ (x : Cached). x.guard) (f.cached e w ∙ nothing)))
          ∙ let_in s f.numbered left (read_from_store s p e)
          ∙ ap (λ (k : ℕ). sent k (any (writing p e) s.requests)) (cond-true (live s p e) ((s.player p).held e) 0 (lives s f e w held z) ∙ f.held e w ∙ held)
          ∙ ap (sent n) (none_any (writing p e) s.requests (λ r i. let t = f.numbered.matched r i in rw t (third_fails (pending r) (is_write r))))

      abbrev pub Begun : Result → Type 0
      Begun x = (x.reply ≡ issued x.reply.a) × Phase (only x.reply.a) (reading x.reply.a ∷ []) pl n x.state

      pub read_step : Begun (step s (Read p e))
      read_step =
          subst Begun (sym reads) (
            refl,
            record {
              numbered = added_numbered s f.numbered (reading (s.last + 1)) refl refl (sent n false).state refl refl;
              requests = added_requests s f.numbered (reading (s.last + 1)) refl refl;
              held = f.held;
              cached = f.cached;
              owner = f.owner;
              epoch = f.epoch;
              undivided = f.undivided;
            },
          )

    -- ‘arrived’: 0, and the outcome is what the store holds
    pub read_deliver_step : {pl : Player} (m : ℕ) (s : State) → Phase (only m) (reading m ∷ []) pl n s → let x = step s (Deliver m) in (x.reply ≡ done) × Phase (only m) (mark_delivered (s.store.version e) (s.store.value e) (reading m) ∷ []) pl n x.state
    read_deliver_step {pl} m s f =
        let a = s.store.version e in
        let b = s.store.value e in
        subst (λ (x : Result). (x.reply ≡ done) × Phase (only m) (mark_delivered a b (reading m) ∷ []) pl n x.state) (sym (found s m f.numbered (reading m) f.requests Undelivered (deliver s) refl)) (
          refl,
          record {
            numbered = delivered_numbered s m f.numbered a b (deliver_read s (reading m)).state refl refl;
            requests = delivered_requests s m f.numbered a b (reading m) f.requests;
            held = f.held;
            cached = f.cached;
            owner = f.owner;
            epoch = f.epoch;
            undivided = f.undivided;
          },
        )

    -- what is cached then
    abbrev pub answer : ℕ → ℕ → Cached
    answer a b = record { guard = n; version = a; value = b }

    abbrev pub remembering : ℕ → ℕ → Player → Player
    remembering a b pl = record { held = pl.held; cached = put e (answer a b) pl.cached }

    -- ‘and answered’: 3, and it is cached, as the guard carried is held and live, and the read not overlapped
    pub read_answer_step : {pl : Player} (m a b : ℕ) (s : State) → pl.held e ≡ n → Phase (only m) (mark_delivered a b (reading m) ∷ []) pl n s → let x = step s (Respond m) in (x.reply ≡ store_read a b) × Phase none [] (remembering a b pl) n x.state
    read_answer_step {pl} m a b s held f =
        let r = mark_delivered a b (reading m) in
        let t = with_count (with_cached (removed s r) p e (answer a b)) p 3 in
        let player : t.player p ≡ remembering a b (s.player p) = put_same p (remembering a b (s.player p)) s.player in
        let may : may_cache s r ≡ true = and-true (not (eqb n 0)) _ (ap not (ne_eqb n 0 z))
        (and-true (eqb n ((s.player p).held e)) _ (eq-eqb n ((s.player p).held e) (sym (f.held e w ∙ held))) (and-true (live s p e) true (lives s f e w held z) refl)) in
        subst (λ (x : Result). (x.reply ≡ store_read a b) × Phase none [] (remembering a b pl) n x.state)
        (sym (found s m f.numbered r f.requests Answerable (respond s) refl ∙ ap (λ (y : State). counting p (record { state = y; reply = store_read a b })) (cond-true (may_cache s r) _ _ may))) (
          refl,
          record {
            numbered = gone_numbered s m f.numbered t refl refl;
            requests = gone_requests s m f.numbered;
            held = λ x v. ap (λ (y : Player). y.held x) player ∙ f.held x v;
            cached = λ x v. ap (λ (y : Player). y.cached x) player ∙ ap (λ (y : Cached). cond (eqb x e) (answer a b) y) (f.cached x v);
            owner = f.owner;
            epoch = f.epoch;
            undivided = f.undivided;
          },
        )

    -- ‘the player's next step, if a read of that entry, comes from memory’: 2
    pub next_step : (pl : Player) (a b : ℕ) (s : State) → pl.held e ≡ n → Phase none [] (remembering a b pl) n s → (step s (Read p e)).reply ≡ cache_read a b
    next_step pl a b s held f =
        let cell : (s.player p).cached e ≡ answer a b = f.cached e w ∙ put_same e (answer a b) pl.cached in
        let hit = and-true (not (eqb n 0)) _ (ap not (ne_eqb n 0 z)) (and-true (eqb n ((s.player p).held e)) _ (eq-eqb n ((s.player p).held e) (sym (f.held e w ∙ held))) (lives s f e w held z)) in
        ap (λ (x : Result). x.reply) (passed s (leb players p) out_of_range _ (lt-leb players p is_player) ∙ cond-true (cache_hit s p e) _ _ (rw cell hit))
        ∙ rw cell
