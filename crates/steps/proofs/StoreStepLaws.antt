-- The steps on the store's table, and delivery, which is a step on both tables.
-- Assumes nothing.
use mathlib.Core.Path.{◌≡◌, refl, sym, ap, ◌∙◌}
use mathlib.Core.Bool.{Bool, true, false, cond, true≢false}
use mathlib.Core.List.{List}
use Prim.Native.Nat.{ℕ, ◌<◌}
use lib.Dec.{T, eqb}
use lib.ListN.{length, take, drop}
use borrow.Author.Tests.{eq-eqb, ne_eqb, lt-ltb, le-leb}
use borrow.Rule.Slice.PartMut.{put_mid}
use Rattle.store.specs.declared.Reply.{Reply}
use Rattle.store.specs.Calls.{IntervalReply}
use Rattle.store.specs.Model.{Store, bad_range, one_tablet, guarded, commits, committed}
use Rattle.store.specs.Table.{store_of, table_of as store_table}
use Rattle.store.specs.Calls.{Result as StoreResult, Done as StoreDone, Refines as StoreRefines, encoded as store_encoded, reply, result, refusal as refused_store, outcome, install, read, commit, split, merge, restart, interval_of}
use Rattle.store.specs.Words.{interval_words}
use Rattle.store.proofs.Reach.{interval_right}
use Rattle.requests.specs.declared.Request.{Request}
use Rattle.requests.specs.declared.Fit.TheVariants.{Undelivered}
use Rattle.requests.specs.Model.{is_guard_request, is_read, drop_request, change_request, mark_delivered}
use Rattle.requests.specs.Region.{region_of, request_holds}
use Rattle.requests.specs.Calls.{At, Nowhere, found, without, with_delivered}
use Rattle.requests.proofs.Rising.{each_at}
use Rattle.requests.proofs.RequestRules.{form_of, guard_request_range}
use Rattle.requests.proofs.Placed.{region_requests}
use Rattle.requests.proofs.RegionLaws.{Stands, stands_in, found_stands, nowhere_region, found_region, without_region, delivered_region}
use Rattle.players.specs.declared.Step.TheVariants.{Deliver, Split, Merge, RestartTablet, FindInterval}
use Rattle.players.specs.Replies.{refusal, done, interval, no_such_request}
use Rattle.players.specs.Rules.{State, Result, with_requests, with_store, check, settled, deliver, step}
use Rattle.players.specs.Regions.{region}
use Rattle.players.specs.Table.{players_words, last_word, request_words, state_of, table_of, valid}
use Rattle.players.specs.Calls.{left, encoded, whole}
use Rattle.players.proofs.CallLaws.{same_tables}
use Rattle.players.proofs.Tables.{few_requests, rules, valid_store_words, valid_players_words, ok_tables, players_table_back}
use Rattle.steps.specs.InnerStore.{Shifts, Acts, performed, settled_words}
use Rattle.steps.proofs.StateLaws.{requests_put}

-- ---- the store's part of a state

-- the players' table holds no store
pub same_players : (s : State) (x : Store) → table_of (with_store s x) ≡ table_of s
unfolding table_of
same_players s x = refl

pub state_of_store : (st t : List ℕ) → (state_of st t).store ≡ store_of st
unfolding state_of
state_of_store st t = refl

left_is : {r r' : Reply} {st st' t t' : List ℕ} → r ≡ r' → st ≡ st' → t ≡ t' → left r st t ≡ left r' st' t'
left_is a b c = rw (a, b, c)

-- what the store's call does, on the whole state
abbrev pub on_store : State → StoreResult → Result
on_store s x = record { state = with_store s x.store; reply = x.reply }

-- ---- 10 split, 11 merge, 12 restart a tablet

-- the store's words, by the call's contract
module _ (g : State → Result) (f : Store → StoreResult) (st : List ℕ) (r : Reply) (st' : List ℕ) where
  pub shifts : length st ≡ 1280 → ((s : State) → g s ≡ on_store s (f s.store)) → StoreRefines f st r st' → Shifts g st r st'
  shifts ls h x =
      record {
        shifted =
            λ t l v.
            let s = state_of st t in
            let d = x.right (last_word t) ls (valid_store_words st t v) in
            let e : f (store_of st) ≡ f s.store = ap f (sym (state_of_store st t)) in
            left_is (ap (λ (y : StoreDone). y.reply) d ∙ ap (λ (y : StoreResult). y.reply) e)
            (ap (λ (y : StoreDone). y.table) d ∙ ap (λ (y : StoreResult). store_table y.store) e)
            (sym (players_table_back st t v ls l) ∙ sym (same_players s (f s.store).store))
            ∙ ap encoded (sym (h s));
      }

two_tests : (s : State) (a b : Bool) (n m : ℕ) (x : Store) → check s a n (check s b m (on_store s (outcome 0 x))) ≡ on_store s (cond a (refused_store n s.store) (cond b (refused_store m s.store) (outcome 0 x)))
two_tests s true b n m x = refl
two_tests s false true n m x = refl
two_tests s false false n m x = refl

pub split_is : (e : ℕ) (s : State) → step s (Split e) ≡ on_store s (split e s.store)
split_is e s = two_tests s (eqb e 0) (eqb (s.store.boundary e) 1) 28 35 _

pub merge_is : (e : ℕ) (s : State) → step s (Merge e) ≡ on_store s (merge e s.store)
merge_is e s = two_tests s (eqb e 0) (eqb (s.store.boundary e) 0) 28 35 _

pub restart_is : (e : ℕ) (s : State) → step s (RestartTablet e) ≡ on_store s (restart e s.store)
restart_is e s = refl

module _ (st : List ℕ) (ls : length st ≡ 1280) (e : ℕ) (r : Reply) (st' : List ℕ) where
  pub split_shifts : StoreRefines (split e) st r st' → Shifts (λ s. step s (Split e)) st r st'
  split_shifts x = shifts (λ s. step s (Split e)) (split e) st r st' ls (split_is e) x

  pub merge_shifts : StoreRefines (merge e) st r st' → Shifts (λ s. step s (Merge e)) st r st'
  merge_shifts x = shifts (λ s. step s (Merge e)) (merge e) st r st' ls (merge_is e) x

  pub restart_shifts : StoreRefines (restart e) st r st' → Shifts (λ s. step s (RestartTablet e)) st r st'
  restart_shifts x = shifts (λ s. step s (RestartTablet e)) (restart e) st r st' ls (restart_is e) x

-- ---- 6 deliver: the store's part

same_refines : (f g : Store → StoreResult) (st : List ℕ) (y : Reply) (st' : List ℕ) → ((z : Store) → f z ≡ g z) → StoreRefines f st y st' → StoreRefines g st y st'
same_refines f g st y st' h x = record { wrong = x.wrong; right = λ n l v. x.right n l v ∙ ap store_encoded (h (store_of st)) }

module _ (r : Request) (st : List ℕ) (y : Reply) (st' : List ℕ) where
  pub perform_guard_request : r.kind ≡ 3 → StoreRefines (install (record { low = r.low; high = r.high }) r.serial) st y st' → StoreRefines (performed r) st y st'
  unfolding performed
  perform_guard_request k x = same_refines (install (record { low = r.low; high = r.high }) r.serial) (performed r) st y st' (λ z. rw (eq-eqb r.kind 3 k)) x

  module _ (k : r.kind ≡ 3 → ⊥) where
    pub perform_read : r.kind ≡ 4 → StoreRefines (read r.low) st y st' → StoreRefines (performed r) st y st'
    unfolding performed
    perform_read j x = same_refines (read r.low) (performed r) st y st' (λ z. rw (ne_eqb r.kind 3 k, eq-eqb r.kind 4 j)) x

    pub perform_write : (r.kind ≡ 4 → ⊥) → StoreRefines (commit r.low r.value r.serial r.guard) st y st' → StoreRefines (performed r) st y st'
    unfolding performed
    perform_write j x = same_refines (commit r.low r.value r.serial r.guard) (performed r) st y st' (λ z. rw (ne_eqb r.kind 3 k, ne_eqb r.kind 4 j)) x

module _ (s : State) (r : Request) where
  -- the request settled by what the store's call gives
  abbrev by_outcome : StoreResult → Result
  by_outcome x = settled s r x.store x.reply.a x.reply.b

  deliver_cases : (k b o l c : Bool) (x y : Store) (v w : ℕ) → (k ≡ true → b ≡ false)
      → cond k (cond o (settled s r x 1 0) (settled s r s.store 2 0)) (cond l (settled s r s.store v w) (cond c (settled s r y 1 0) (settled s r s.store 2 0)))
      ≡ by_outcome
      (cond k (cond b (refused_store 28 s.store) (cond o (outcome 1 x) (outcome 2 s.store)))
      (cond l (result (reply 0 v w) s.store) (cond c (outcome 1 y) (outcome 2 s.store))))
  deliver_cases true true o l c x y v w h = absurd (true≢false (h refl))
  deliver_cases true false true l c x y v w h = refl
  deliver_cases true false false l c x y v w h = refl
  deliver_cases false b o true c x y v w h = refl
  deliver_cases false b o false true x y v w h = refl
  deliver_cases false b o false false x y v w h = refl

  -- a guard request has a range, so the store does not refuse it
  pub deliver_is : (is_guard_request r ≡ true → bad_range (record { low = r.low; high = r.high }) ≡ false) → deliver s r ≡ by_outcome (performed r s.store)
  unfolding performed
  deliver_is h =
      deliver_cases (is_guard_request r) (bad_range (record { low = r.low; high = r.high })) (one_tablet s.store r.low r.high) (is_read r) (commits s.store r.low r.guard)
      (guarded s.store r.low r.high r.serial) (committed s.store r.low r.serial r.value) (s.store.version r.low) (s.store.value r.low) h

good_range : (n : ℕ) (r : Request) → T (request_holds n r) → is_guard_request r ≡ true → bad_range (record { low = r.low; high = r.high }) ≡ false
good_range n r t k =
    let q = guard_request_range r k (form_of n r t).fields in
    rw (lt-ltb r.low r.high q.0, le-leb r.high 256 q.1)

-- ---- 6 deliver: the requests

module _ (k : ℕ) (abandoned : Bool) (a b : ℕ) (t q : List ℕ) where
  pub settle_removed : abandoned ≡ true → q ≡ without k (take 768 (drop 8705 t)) → put_mid 8705 768 t q ≡ settled_words k abandoned a b t
  unfolding settled_words
  settle_removed h e = rw (h, e)

  pub settle_delivered : abandoned ≡ false → q ≡ with_delivered k a b (take 768 (drop 8705 t)) → put_mid 8705 768 t q ≡ settled_words k abandoned a b t
  unfolding settled_words
  settle_delivered h e = rw (h, e)

one_region : (b : Bool) (u v : List ℕ) (ds cs : List Request) → u ≡ region_of ds → v ≡ region_of cs → cond b u v ≡ region_of (cond b ds cs)
one_region true u v ds cs p q = p
one_region false u v ds cs p q = q

-- ---- 6 deliver: both tables

module _ (st t : List ℕ) (ls : length st ≡ 1280) (l : length t ≡ players_words) where
  is_whole : whole st t ≡ true
  is_whole = rw (eq-eqb (length st) 1280 ls, eq-eqb (length t) players_words l)

  words_are : T (valid st t) → take 768 (drop 8705 t) ≡ region_of (state_of st t).requests
  unfolding state_of region
  words_are v = sym (region_requests (last_word t) (request_words t) (rules t l (valid_players_words st t v)).requests)

  abbrev stays : Result
  stays = record { state = state_of st t; reply = refusal no_such_request }

  module _ (n : ℕ) where
    pub deliver_unfit : Nowhere ≡ found Undelivered n (take 768 (drop 8705 t)) → Acts (λ s. step s (Deliver n)) st t (refusal no_such_request) st t
    deliver_unfit e =
        record {
          acted =
              λ v.
              let s = state_of st t in
              let k = ok_tables st t v ls l in
              let f = nowhere_region s.last s.requests (few_requests k) k.requests Undelivered n stays (deliver s) (e ∙ ap (found Undelivered n) (words_are v)) in
              sym (ap encoded f ∙ same_tables st t is_whole v (refusal no_such_request));
        }

    module _ (k : ℕ) (r : Request) (e : At k r ≡ found Undelivered n (take 768 (drop 8705 t))) where
      module _ (v : T (valid st t)) where
        it_stands : Stands r k (state_of st t).requests
        it_stands =
            let s = state_of st t in
            let o = ok_tables st t v ls l in
            found_stands s.last s.requests (few_requests o) o.requests Undelivered n k r (e ∙ ap (found Undelivered n) (words_are v))

        deliver-found : step (state_of st t) (Deliver n) ≡ by_outcome (state_of st t) r (performed r (state_of st t).store)
        deliver-found =
            let s = state_of st t in
            let o = ok_tables st t v ls l in
            let h = each_at _ 0 s.requests o.requests r (stands_in it_stands) in
            found_region s.last s.requests (few_requests o) o.requests Undelivered n k r (e ∙ ap (found Undelivered n) (words_are v)) stays (deliver s)
            ∙ deliver_is s r (good_range s.last r h)

        settled_table : (a b : ℕ) (x : Store) → settled_words k r.abandoned a b t ≡ table_of (settled (state_of st t) r x a b).state
        unfolding settled_words
        settled_table a b x =
            let s = state_of st t in
            let o = ok_tables st t v ls l in
            let ds = drop_request r.serial s.requests in
            let cs = change_request r.serial (mark_delivered a b) s.requests in
            let rs : List Request = cond r.abandoned ds cs in
            ap (λ (w : List ℕ). put_mid 8705 768 t (cond r.abandoned (without k w) (with_delivered k a b w))) (words_are v)
            ∙ ap (λ (w : List ℕ). put_mid 8705 768 t w)
            (one_region r.abandoned _ _ ds cs (without_region s.last s.requests (few_requests o) o.requests it_stands) (delivered_region s.last s.requests (few_requests o) o.requests it_stands a b))
            ∙ ap (λ (u : List ℕ). put_mid 8705 768 u (region_of rs)) (sym (players_table_back st t v ls l))
            ∙ requests_put s (region_of rs) rs refl
            ∙ sym (same_players (with_requests s rs) x)

      pub deliver_fit : (y x : Reply) (st' t' : List ℕ) → StoreRefines (performed r) st y st' → t' ≡ settled_words k r.abandoned y.a y.b t → x ≡ done
          → Acts (λ s. step s (Deliver n)) st t x st' t'
      deliver_fit y x st' t' q et ex =
          record {
            acted =
                λ v.
                let s = state_of st t in
                let p : StoreResult = performed r s.store in
                let f = q.right (last_word t) ls (valid_store_words st t v) ∙ ap (λ (u : Store). store_encoded (performed r u)) (sym (state_of_store st t)) in
                let ey : y ≡ p.reply = ap (λ (u : StoreDone). u.reply) f in
                let es : st' ≡ store_table p.store = ap (λ (u : StoreDone). u.table) f in
                left_is ex es (et ∙ ap (λ (u : Reply). settled_words k r.abandoned u.a u.b t) ey ∙ settled_table v p.reply.a p.reply.b p.store)
                ∙ sym (ap encoded (deliver-found v));
          }

-- ---- 14 find a guard interval

-- the tables stay, and the reply has what the store's search finds
pub find_shifts : (st : List ℕ) → length st ≡ 1280 → (e : ℕ) → e < 256 → (x : IntervalReply) → x ≡ interval_words e st → Shifts (λ s. step s (FindInterval e)) st (interval x.first x.last) st
find_shifts st ls e h x is =
    record {
      shifted =
          λ t l v.
          let s = state_of st t in
          let d : x ≡ interval_of e s.store = is ∙ interval_right (last_word t) st ls (valid_store_words st t v) e h ∙ ap (interval_of e) (sym (state_of_store st t)) in
          sym (same_tables st t (is_whole st t ls l) v _)
          ∙ ap (λ (y : IntervalReply). encoded (record { state = s; reply = interval y.first y.last })) d;
    }
