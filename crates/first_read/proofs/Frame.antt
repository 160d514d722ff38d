-- What a step that does not disturb leaves alone: the player's guards and cached values in the range and its requests, the owners and epochs of the range, and that no boundary
-- lies inside it.
-- Assumes nothing.
use mathlib.Core.Path.{◌≡◌, refl, sym, ap, ◌∙◌, subst}
use mathlib.Core.Bool.{Bool, true, false, cond, not, ◌&&◌, ◌||◌}
use mathlib.Core.List.{List, [], ◌∷◌, ◌++◌, map, append-nil}
use Prim.Native.Nat.{ℕ, ◌+◌, ◌≤◌, ◌<◌}
use native.Mathlib.Omega.{arith}
use borrow.Author.Tests.{eqb-true, eqb-false, ne_eqb, eq-eqb, not-true, lt-ltb, leb-true}
use lib.Dec.{leb, ltb, eqb}
use Rattle.store.specs.Model.{Store, put, within, with_boundary, guarded, committed as write_committed, restarted}
use Rattle.store.specs.declared.Range.{Range}
use Rattle.requests.specs.declared.Request.{Request}
use Rattle.requests.specs.Model.{any, keep, by, pending, is_guard_request, serial_is, drop_request, change_request, mark_delivered, mark_abandoned, mark_overlapped, using_entry, writing, new_request, loader}
use Rattle.players.specs.declared.Step.{Step}
use Rattle.players.specs.Replies.{first_refusal}
use Rattle.counters.specs.declared.Counts.{Counts}
use Rattle.players.specs.Rules.{State, Player, Result, step, players, nobody, live, with_requests, with_counters, with_store, with_player, issue, set_owner, request_guard, write, settled, removed, set_boundary, restart_player, cleared, fresh_player, empty}
use Rattle.players.specs.Played.{state_after}
use Rattle.players.proofs.StepCases.{ByCase, step_elim, step_stays}
use Rattle.linearizable.proofs.Tests.{and_left, and_right, and-true, clash, bool_elim, cond_elim, put_elim}
use Rattle.linearizable.proofs.RequestLists.{In, all_map, all_keep, all_append, any_none}
use Rattle.first_read.specs.Promise.{share_entry, own_request, disturbs, allowed, all_allowed}
use Rattle.first_read.proofs.Lists.{keep-keep, keep_same, keep-append}
use Rattle.first_read.proofs.Ranges.{InRange, from_low, below_high}

-- `own` tells the serials of the player's requests
module _ (p : ℕ) (is_player : p < players) (g : Range) (own : ℕ → Bool) where
  -- they are those serials and no others, and every serial is issued
  pub record Numbered (s : State) : Type 0 where
    pub below : (r : Request) → In r s.requests → r.serial ≤ s.last
    pub listed : (m : ℕ) → own m ≡ true → m ≤ s.last
    pub matched : (r : Request) → In r s.requests → by p r ≡ own r.serial

  -- what t has kept of s
  pub record After (s t : State) : Type 0 where
    pub last : s.last ≤ t.last
    pub held : (e : ℕ) → InRange g e → (t.player p).held e ≡ (s.player p).held e
    pub cached : (e : ℕ) → InRange g e → (t.player p).cached e ≡ (s.player p).cached e
    pub owner : (e : ℕ) → InRange g e → t.owners.owner e ≡ s.owners.owner e
    pub epoch : (e : ℕ) → InRange g e → t.owners.epoch e ≡ s.owners.epoch e
    pub boundary : (e : ℕ) → g.low < e → e < g.high → s.store.boundary e ≡ 0 → t.store.boundary e ≡ 0
    pub requests : keep (by p) t.requests ≡ keep (by p) s.requests
    pub numbered : Numbered t

  after_same : (s : State) → Numbered s → After s s
  after_same s c =
      record { last = omega arith; held = λ e w. refl; cached = λ e w. refl; owner = λ e w. refl; epoch = λ e w. refl; boundary = λ e a b h. h; requests = refl; numbered = c }

  after_then : {s t u : State} → After s t → After t u → After s u
  after_then a b =
      let x = a.last in
      let y = b.last in
      record {
        last = omega arith;
        held = λ e w. b.held e w ∙ a.held e w;
        cached = λ e w. b.cached e w ∙ a.cached e w;
        owner = λ e w. b.owner e w ∙ a.owner e w;
        epoch = λ e w. b.epoch e w ∙ a.epoch e w;
        boundary = λ e l h z. b.boundary e l h (a.boundary e l h z);
        requests = b.requests ∙ a.requests;
        numbered = b.numbered;
      }

  -- ---- changes of one part, of a state in which the serials are such

  module _ (s : State) (c : Numbered s) where
    same_numbers : (t : State) → t.last ≡ s.last → t.requests ≡ s.requests → Numbered t
    same_numbers t l m = record { below = λ r i. rw l (c.below r (rw m at i)); listed = λ n h. rw l (c.listed n h); matched = λ r i. c.matched r (rw m at i) }

    -- another player
    player_after : (q : ℕ) (x : Player) → eqb q p ≡ false → After s (with_player s q x)
    player_after q x h =
        let z : put q x s.player p ≡ s.player p = ap (λ b. cond b x (s.player p)) (ne_eqb p q (λ y. eqb-false q p h (sym y))) in
        record {
          last = omega arith;
          held = λ e w. ap (λ (y : Player). y.held e) z;
          cached = λ e w. ap (λ (y : Player). y.cached e) z;
          owner = λ e w. refl;
          epoch = λ e w. refl;
          boundary = λ e a b h. h;
          requests = refl;
          numbered = same_numbers (with_player s q x) refl refl;
        }

    -- the read counters
    counters_after : (cs : ℕ → Counts) → After s (with_counters s cs)
    counters_after cs =
        record { last = omega arith; held = λ e w. refl; cached = λ e w. refl; owner = λ e w. refl; epoch = λ e w. refl; boundary = λ e a b h. h; requests = refl; numbered = same_numbers (with_counters s cs) refl refl }

    -- the store, where no boundary appears in the range
    store_after : (st : Store) → ((e : ℕ) → g.low < e → e < g.high → s.store.boundary e ≡ 0 → st.boundary e ≡ 0) → After s (with_store s st)
    store_after st h =
        record { last = omega arith; held = λ e w. refl; cached = λ e w. refl; owner = λ e w. refl; epoch = λ e w. refl; boundary = h; requests = refl; numbered = same_numbers (with_store s st) refl refl }

    -- a request of the new list
    abbrev Fine : Request → Type 0
    Fine r = (r.serial ≤ s.last) × (by p r ≡ own r.serial)

    fine : (r : Request) → In r s.requests → Fine r
    fine r i = (c.below r i, c.matched r i)

    -- the requests, where the player's stay
    requests_after : (rs : List Request) → keep (by p) rs ≡ keep (by p) s.requests → ((r : Request) → In r rs → Fine r) → After s (with_requests s rs)
    requests_after rs h k =
        record { last = omega arith; held = λ e w. refl; cached = λ e w. refl; owner = λ e w. refl; epoch = λ e w. refl; boundary = λ e a b h. h; requests = h; numbered = record { below = λ r i. (k r i).0; listed = c.listed; matched = λ r i. (k r i).1 } }

    issue_after : After s (issue s)
    issue_after =
        record {
          last = omega arith;
          held = λ e w. refl;
          cached = λ e w. refl;
          owner = λ e w. refl;
          epoch = λ e w. refl;
          boundary = λ e a b h. h;
          requests = refl;
          numbered = record { below = λ r i. let k = c.below r i in omega arith; listed = λ m h. let k = c.listed m h in omega arith; matched = c.matched };
        }

    -- some requests are changed, none of the player's
    changed_after : (t : Request → Bool) (f : Request → Request) → ((r : Request) → ((f r).serial ≡ r.serial) × ((f r).player ≡ r.player)) → ((r : Request) → In r s.requests → by p r ≡ true → t r ≡ false) → After s (with_requests s (map (λ r. cond (t r) (f r) r) s.requests))
    changed_after t f k h =
        requests_after (map (λ r. cond (t r) (f r) r) s.requests)
        (keep_same (by p) (λ r. cond (t r) (f r) r) s.requests
        (λ r i. (cond_elim (λ (q : Request). by p q ≡ by p r) (t r) (f r) r (λ _. ap (λ m. eqb m p) (k r).1) (λ _. refl), λ z. ap (λ b. cond b (f r) r) (h r i z))))
        (all_map Fine (λ r. cond (t r) (f r) r) s.requests (λ r i. cond_elim Fine (t r) (f r) r (λ _. moved r (f r).serial (f r).player (k r).0 (k r).1 (fine r i)) (λ _. fine r i)))
      where
        moved : (r : Request) (a b : ℕ) → a ≡ r.serial → b ≡ r.player → Fine r → (a ≤ s.last) × (eqb b p ≡ own a)
        moved r a b y z t = rw (y, z) t

    -- some leave, none of the player's
    kept_after : (t : Request → Bool) → ((r : Request) → In r s.requests → by p r ≡ true → t r ≡ true) → After s (with_requests s (keep t s.requests))
    kept_after t h = requests_after (keep t s.requests) (keep-keep (by p) t s.requests h) (all_keep Fine t s.requests (λ r i _. fine r i))

  -- a new request of another
  added_after : (s : State) → Numbered s → (q : Request) → q.serial ≡ s.last + 1 → by p q ≡ false → After s (with_requests (issue s) (s.requests ++ (q ∷ [])))
  added_after s c q n h =
      let a = issue_after s c in
      after_then a
      (requests_after (issue s) a.numbered (s.requests ++ (q ∷ [])) (keep-append (by p) s.requests q ∙ rw h (append-nil (keep (by p) s.requests)))
      (all_append (Fine (issue s) a.numbered) s.requests q (fine (issue s) a.numbered) (omega arith, h ∙ sym unused)))
    where
      unused : own q.serial ≡ false
      unused = bool_elim (own q.serial) (λ t. let k = c.listed q.serial t in absurd (omega arith)) (λ t. t)

  -- ---- the steps

  module _ (s : State) (c : Numbered s) where
    -- 1, 2: a range that has no entry of the player's
    owner_after : (o : ℕ) (h : Range) → share_entry g h ≡ false → After s (set_owner s o h).state
    owner_after o h d =
        record {
          last = omega arith;
          held = λ e w. refl;
          cached = λ e w. refl;
          owner = λ e w. ap (λ b. cond b o (s.owners.owner e)) (apart e w);
          epoch = λ e w. ap (λ b. cond b (s.last + 1) (s.owners.epoch e)) (apart e w);
          boundary = λ e a b z. z;
          requests = refl;
          numbered = record { below = λ r i. let k = c.below r i in omega arith; listed = λ m t. let k = c.listed m t in omega arith; matched = c.matched };
        }
      where
        apart : (e : ℕ) → InRange g e → within h.low h.high e ≡ false
        apart e w =
            bool_elim (within h.low h.high e)
            (λ t.
            let a = from_low g e w in
            let b = below_high g e w in
            let k = from_low h e t in
            let l = below_high h e t in
            clash (and-true (ltb g.low h.high) (ltb h.low g.high) (lt-ltb g.low h.high (omega arith)) (lt-ltb h.low g.high (omega arith))) d)
            (λ t. t)

    -- 3 to 5, 15: of another player, or the loader
    guard_request_after : (q : ℕ) (h : Range) → eqb q p ≡ false → After s (request_guard s q h).state
    guard_request_after q h d =
        let x = cleared h.low h.high (s.player q) in
        let a = player_after s c q x d in
        after_then a (added_after (with_player s q x) a.numbered (new_request (s.last + 1) q 3 h.low h.high 0 0 false) refl d)

    write_after : (q e v : ℕ) → eqb q p ≡ false → After s (write s q e v).state
    write_after q e v d =
        let x : Player = record { held = (s.player q).held; cached = put e empty (s.player q).cached } in
        let m = map (λ r. cond (using_entry q e r) (mark_overlapped r) r) s.requests in
        let a = changed_after s c (using_entry q e) mark_overlapped (λ r. (refl, refl)) (λ r i t. not_used r t) in
        let b = player_after (with_requests s m) a.numbered q x d in
        after_then a (after_then b (added_after (with_player (with_requests s m) q x) b.numbered (new_request (s.last + 1) q 5 e 0 v ((s.player q).held e) (any (writing q e) s.requests)) refl d))
      where
        not_used : (r : Request) → by p r ≡ true → using_entry q e r ≡ false
        not_used r t =
            bool_elim (using_entry q e r)
            (λ u.
            let a = and_right (pending r) (not (is_guard_request r) && (by q r && eqb r.low e)) u in
            let b = and_right (not (is_guard_request r)) (by q r && eqb r.low e) a in
            let k = eqb-true r.player q (and_left (by q r) (eqb r.low e) b) in
            absurd (eqb-false q p d (sym k ∙ eqb-true r.player p t)))
            (λ u. u)

    -- 10, 11: at an entry that is not inside the range, or to 0
    boundary_after : (e b : ℕ) → ((x : ℕ) → g.low < x → x < g.high → x ≡ e → b ≡ 0) → After s (set_boundary s e b).state
    boundary_after e b h =
        store_after s c (with_boundary s.store (put e b s.store.boundary)) (λ x l k z. put_elim (λ (y : ℕ). y ≡ 0) e b s.store.boundary x (λ w. h x l k w) (λ w. z))

    -- 13: of another player
    restart_after : (q : ℕ) → eqb q p ≡ false → After s (restart_player s q).state
    restart_after q d =
        let stays : Request → Bool = λ r. not (by q r && (pending r && r.delivered)) in
        let a = player_after s c q fresh_player d in
        let b = kept_after (with_player s q fresh_player) a.numbered stays (λ r i t. ap (λ z. not (z && (pending r && r.delivered))) (not_by r t)) in
        after_then a (after_then b (changed_after (with_requests (with_player s q fresh_player) (keep stays s.requests)) b.numbered (by q) mark_abandoned (λ r. (refl, refl)) (λ r i t. not_by r t)))
      where
        not_by : (r : Request) → by p r ≡ true → by q r ≡ false
        not_by r t = ne_eqb r.player q (λ z. eqb-false q p d (sym z ∙ eqb-true r.player p t))

    -- 6 to 9: on the request r of another, with the serial n
    module _ (r : Request) (n : ℕ) (i : In r s.requests) (z : r.serial ≡ n) (d : own_request s p n ≡ false) where
      others : (q : Request) → In q s.requests → by p q ≡ true → serial_is r.serial q ≡ false
      others q j t = rw z (bool_elim (serial_is n q) (λ u. clash (and-true (by p q) (serial_is n q) t u) (any_none (λ x. by p x && serial_is n x) s.requests d q j)) (λ u. u))

      another : by p r ≡ false
      another = bool_elim (by p r) (λ t. clash (eq-eqb r.serial r.serial refl) (others r i t)) (λ t. t)

      gone_after : After s (removed s r)
      gone_after = kept_after s c (λ q. not (serial_is r.serial q)) (λ q j t. ap not (others q j t))

      marked_after : (f : Request → Request) → ((q : Request) → ((f q).serial ≡ q.serial) × ((f q).player ≡ q.player)) → After s (with_requests s (change_request r.serial f s.requests))
      marked_after f k = changed_after s c (serial_is r.serial) f k others

      -- with the player of the request changed, too
      with_player_after : (rs : List Request) (x : Player) → After s (with_requests s rs) → After s (with_player (with_requests s rs) r.player x)
      with_player_after rs x a = after_then a (player_after (with_requests s rs) a.numbered r.player x another)

      settled_after : (st : Store) (a b : ℕ) → st.boundary ≡ s.store.boundary → After s (settled s r st a b).state
      settled_after st a b k =
          cond_elim (λ (rs : List Request). After s (with_requests (with_store s st) rs)) r.abandoned _ _ (λ t. stored (drop_request r.serial s.requests) gone_after)
          (λ t. stored (change_request r.serial (mark_delivered a b) s.requests) (marked_after (mark_delivered a b) (λ q. (refl, refl))))
        where
          stored : (rs : List Request) → After s (with_requests s rs) → After s (with_requests (with_store s st) rs)
          stored rs x = after_then x (store_after (with_requests s rs) x.numbered st (λ e l h y. ap (λ f. f e) k ∙ y))

    -- reads counted beside a change
    counted_after : {t : State} → After s t → (cs : ℕ → Counts) → After s (with_counters t cs)
    counted_after {t} a cs = after_then a (counters_after t a.numbered cs)

    -- every step
    after_cases : ByCase (λ x r. disturbs s p g x ≡ false → After s r.state) s
    after_cases =
        record {
          refused = λ x n _ _. after_same s c;
          assigned = λ q h _ _ _ d. owner_after q h d;
          released = λ h _ _ d. owner_after nobody h d;
          requested = λ q h _ _ _ _ d. guard_request_after q h d;
          reads_cache = λ q e _ _ _. counters_after s c _;
          reads_store = λ q e _ _ d. added_after s c (new_request (s.last + 1) q 4 e 0 0 (cond (live s q e) ((s.player q).held e) 0) (any (writing q e) s.requests)) refl d;
          writes = λ q e v _ _ _ d. write_after q e v d;
          set = λ r n w _ _ d. settled_after r n w.member w.serial d (guarded s.store r.low r.high r.serial) 1 0 refl;
          unset = λ r n w _ _ d. settled_after r n w.member w.serial d s.store 2 0 refl;
          fetched = λ r n w _ d. settled_after r n w.member w.serial d s.store (s.store.version r.low) (s.store.value r.low) refl;
          takes_effect = λ r n w _ _ _ d. settled_after r n w.member w.serial d (write_committed s.store r.low r.serial r.value) 1 0 refl;
          rejects = λ r n w _ _ _ d. settled_after r n w.member w.serial d s.store 2 0 refl;
          granted = λ r n w _ _ _ d. with_player_after r n w.member w.serial d _ _ (gone_after r n w.member w.serial d);
          layout = λ r n w d. gone_after r n w.member w.serial d;
          not_held = λ r n w d. gone_after r n w.member w.serial d;
          read_cached = λ r n w _ _ d. counted_after (with_player_after r n w.member w.serial d _ _ (gone_after r n w.member w.serial d)) _;
          read_not_cached = λ r n w _ d. counted_after (gone_after r n w.member w.serial d) _;
          write_cached = λ r n w _ _ _ _ d. with_player_after r n w.member w.serial d _ _ (gone_after r n w.member w.serial d);
          write_not_cached = λ r n w _ _ _ d. gone_after r n w.member w.serial d;
          write_rejected = λ r n w _ _ _ _ d. with_player_after r n w.member w.serial d _ _ (gone_after r n w.member w.serial d);
          load_rejected = λ r n w _ _ _ _ d. gone_after r n w.member w.serial d;
          write_dropped = λ r n w _ d. with_player_after r n w.member w.serial d _ _ (gone_after r n w.member w.serial d);
          request_dropped = λ r n w d. gone_after r n w.member w.serial d;
          write_marked = λ r n w _ _ _ d. with_player_after r n w.member w.serial d _ _ (marked_after r n w.member w.serial d mark_abandoned (λ q. (refl, refl)));
          request_marked = λ r n w _ _ d. marked_after r n w.member w.serial d mark_abandoned (λ q. (refl, refl));
          loses = λ r n w d. gone_after r n w.member w.serial d;
          splits = λ e _ d. boundary_after e 1 (λ x l h y. clash (and-true (ltb g.low e) (ltb e g.high) (lt-ltb g.low e (omega arith)) (lt-ltb e g.high (omega arith))) d);
          merges = λ e _ _. boundary_after e 0 (λ x l h y. refl);
          restarts_tablet = λ e _. store_after s c (restarted s.store e) (λ x l h y. y);
          restarts_player = λ q _ d. restart_after q d;
          finds = λ e _. after_same s c;
          loads = λ e v _ _. added_after s c (new_request (s.last + 1) loader 5 e 0 v 0 false) refl (ne_eqb loader p (λ z. absurd (omega arith)));
        }

    -- a step that is refused alters nothing
    pub allowed_after : (x : Step) → allowed s p g x ≡ true → After s (step s x).state
    allowed_after x h =
        bool_elim (leb first_refusal (step s x).reply.code)
        (λ t. subst (After s) (ap (λ (r : Result). r.state) (sym (step_stays s x (leb-true first_refusal (step s x).reply.code t)))) (after_same s c))
        (λ t. step_elim (λ y r. disturbs s p g y ≡ false → After s r.state) s after_cases x (not-true (disturbs s p g x) (second (leb first_refusal (step s x).reply.code) t h)))
      where
        second : (a : Bool) {b : Bool} → a ≡ false → (a || b) ≡ true → b ≡ true
        second a t h = rw t at h

  -- a list of them
  pub others_after : (s : State) → Numbered s → (xs : List Step) → all_allowed s p g xs ≡ true → After s (state_after s xs)
  unfolding state_after
  others_after s c [] h = after_same s c
  others_after s c (x ∷ xs) h =
      let a = allowed_after s c x (and_left (allowed s p g x) (all_allowed (step s x).state p g xs) h) in
      after_then a (others_after (step s x).state a.numbered xs (and_right (allowed s p g x) (all_allowed (step s x).state p g xs) h))
