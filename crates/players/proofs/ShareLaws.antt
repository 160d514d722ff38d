-- Rows for everyone (document 02 §5): every step keeps the shares, and who is turned away for want of a place.
-- Assumes nothing.
use mathlib.Core.Path.{◌≡◌, refl, sym, ◌∙◌}
use mathlib.Core.Logic.{◌≢◌, ◌⊎◌, inl, inr}
use mathlib.Core.Bool.{Bool, true, false, true≢false, cond, not, ◌&&◌, ◌||◌}
use mathlib.Core.List.{List, map}
use Prim.Native.Nat.{ℕ, ◌≤◌, ◌<◌}
use native.Mathlib.Omega.{arith}
use borrow.Author.Tests.{leb-true}
use lib.Dec.{T, leb}
use lib.ListN.{length}
use Rattle.store.specs.Model.{serials, bad_range}
use Rattle.store.specs.declared.Range.{Range}
use Rattle.requests.specs.declared.Request.{Request}
use Rattle.requests.specs.Model.{places, loader, any, requesting, by, pending, serial_is, using_entry, keep, drop_request, change_request, mark_overlapped, mark_delivered, mark_abandoned}
use Rattle.requests.specs.Shares.{own_places, common_places, count_by, common_used, no_place}
use Rattle.requests.proofs.Basics.{both_left, both_right, cond_elim}
use Rattle.requests.proofs.ShareLaws.{Shares, choice_count, as_many_shares, kept_shares, changed_shares, own_place_left, appended_shares}
use Rattle.players.specs.declared.Step.{Step}
use Rattle.players.specs.declared.Step.TheVariants.{RequestGuard, Read, Write, Load}
use Rattle.players.specs.Replies.{issued, out_of_range, not_owner, no_live_guard, already_requested, no_place_left, no_serial_left}
use Rattle.players.specs.Rules.{State, Result, check, need_place, need_serial, players, all_entries, owns, live, cache_hit, read_from_cache, request_guard, read_from_store, write, load, step}
use Rattle.players.specs.Table.{state_of, valid}
use Rattle.players.specs.Calls.{Done, whole, called}
use Rattle.players.proofs.Tables.{few_requests, ok_tables}
use Rattle.players.proofs.CheckLaws.{store_long, players_long}
use Rattle.players.proofs.StepFacts.{check_elim}
use Rattle.players.proofs.StepCases.{ByCase, step_elim}

-- ---- every step keeps the shares

module _ (s : State) where
  -- the requests that the result leaves keep the shares if those before did
  abbrev Keeps : Step → Result → Type 0
  Keeps x r = Shares s.requests → Shares r.state.requests

  gone : (n : ℕ) → Shares s.requests → Shares (drop_request n s.requests)
  gone n = kept_shares (λ q. not (serial_is n q)) s.requests

  changed : (n : ℕ) (f : Request → Request) → ((q : Request) → (f q).player ≡ q.player) → Shares s.requests → Shares (change_request n f s.requests)
  changed n f h = changed_shares n f h s.requests

  arrived : (r : Request) (a b : ℕ) → Shares s.requests → Shares (cond r.abandoned (drop_request r.serial s.requests) (change_request r.serial (mark_delivered a b) s.requests))
  arrived r a b k = cond_elim Shares r.abandoned _ _ (λ _. gone r.serial k) (λ _. changed r.serial (mark_delivered a b) (λ _. refl) k)

  share_cases : ByCase Keeps s
  share_cases =
      record {
        refused = λ x n h k. k;
        assigned = λ p g h q l k. k;
        released = λ g q l k. k;
        requested = λ p g h q w v k. appended_shares s.requests s.requests _ (λ _. refl) k w.place;
        reads_cache = λ p e _ h k. k;
        reads_store = λ p e h w k. appended_shares s.requests s.requests _ (λ _. refl) k w.place;
        writes = λ p e v h w l k. appended_shares s.requests (map (λ r. cond (using_entry p e r) (mark_overlapped r) r) s.requests) _ (choice_count (using_entry p e) mark_overlapped (λ _. refl) s.requests) k w.place;
        set = λ r n w z t. arrived r 1 0;
        unset = λ r n w z t. arrived r 2 0;
        fetched = λ r n w z. arrived r _ _;
        takes_effect = λ r n w a b t. arrived r 1 0;
        rejects = λ r n w a b t. arrived r 2 0;
        granted = λ r n w z h o. gone r.serial;
        layout = λ r n w. gone r.serial;
        not_held = λ r n w. gone r.serial;
        read_cached = λ r n w z c. gone r.serial;
        read_not_cached = λ r n w z. gone r.serial;
        write_cached = λ r n w a b o c. gone r.serial;
        write_not_cached = λ r n w a b o. gone r.serial;
        write_rejected = λ r n w a b o q. gone r.serial;
        load_rejected = λ r n w a b o q. gone r.serial;
        write_dropped = λ r n w q. gone r.serial;
        request_dropped = λ r n w. gone r.serial;
        write_marked = λ r n w z q d. changed r.serial mark_abandoned (λ _. refl);
        request_marked = λ r n w z d. changed r.serial mark_abandoned (λ _. refl);
        loses = λ r n w. gone r.serial;
        splits = λ e z k. k;
        merges = λ e z k. k;
        restarts_tablet = λ e k. k;
        restarts_player = λ p h k.
            let stays : Request → Bool = λ r. not (by p r && (pending r && r.delivered)) in
            as_many_shares (keep stays s.requests) (map (λ r. cond (by p r) (mark_abandoned r) r) (keep stays s.requests)) (choice_count (by p) mark_abandoned (λ _. refl) (keep stays s.requests)) (kept_shares stays s.requests k);
        finds = λ e k. k;
        loads = λ e v w k. appended_shares s.requests s.requests _ (λ _. refl) k w.place;
      }

  -- whatever the state, and whatever the step
  pub shares_kept : (x : Step) → Shares s.requests → Shares (step s x).state.requests
  shares_kept = step_elim Keeps s share_cases

-- ---- who is turned away

-- the steps that need a place, and for whom
pub data Asks : Step → ℕ → Type 0 where
  a_guard : {p : ℕ} {g : Range} → Asks (RequestGuard p g) p
  a_read : {p e : ℕ} → Asks (Read p e) p
  a_write : {p e v : ℕ} → Asks (Write p e v) p
  a_load : {e v : ℕ} → Asks (Load e v) loader

module _ (s : State) where
  -- 38 is given only where no place is left for player p
  abbrev OnlyWhen : ℕ → Result → Type 0
  OnlyWhen p r = r.reply.code ≡ no_place_left → no_place p s.requests ≡ true

  -- another code
  other : (p : ℕ) (r : Result) → r.reply.code ≢ no_place_left → OnlyWhen p r
  other p r h e = absurd (h e)

  placed : (p : ℕ) (r : Result) → r.reply.code ≢ no_place_left → OnlyWhen p (need_place s p r)
  placed p r h = by_test (no_place p s.requests) refl
    where
      by_test : (b : Bool) → no_place p s.requests ≡ b → OnlyWhen p (check s b no_place_left (need_serial s r))
      by_test true t = λ _. t
      by_test false t = check_elim (OnlyWhen p) s (leb serials s.last) no_serial_left r (λ e. absurd (omega arith)) (λ _. other p r h)

  -- no place is left
  turned : (p : ℕ) (r : Result) → no_place p s.requests ≡ true → ((need_place s p r).reply.code ≢ (issued 0).code) × ((need_place s p r).reply.code ≢ no_serial_left)
  turned p r t = rw t (omega arith, omega arith)

  only_when : {x : Step} {p : ℕ} → Asks x p → OnlyWhen p (step s x)
  only_when (a_guard {p} {g}) =
      check_elim (OnlyWhen p) s (leb players p || bad_range g) out_of_range _ (λ e. absurd (omega arith))
      (λ _. check_elim (OnlyWhen p) s (not (all_entries (owns s p) g.low g.high)) not_owner _ (λ e. absurd (omega arith))
      (λ _. check_elim (OnlyWhen p) s (any (requesting p g) s.requests) already_requested _ (λ e. absurd (omega arith)) (λ _. placed p (request_guard s p g) (omega arith))))
  only_when (a_read {p} {e}) =
      check_elim (OnlyWhen p) s (leb players p) out_of_range _ (λ e. absurd (omega arith))
      (λ _. cond_elim (OnlyWhen p) (cache_hit s p e) (read_from_cache s p e) (need_place s p (read_from_store s p e)) (λ _. other p (read_from_cache s p e) (omega arith)) (λ _. placed p (read_from_store s p e) (omega arith)))
  only_when (a_write {p} {e} {v}) =
      check_elim (OnlyWhen p) s (leb players p) out_of_range _ (λ e. absurd (omega arith))
      (λ _. check_elim (OnlyWhen p) s (not (owns s p e)) not_owner _ (λ e. absurd (omega arith))
      (λ _. check_elim (OnlyWhen p) s (not (live s p e)) no_live_guard _ (λ e. absurd (omega arith)) (λ _. placed p (write s p e v) (omega arith))))
  only_when (a_load {e} {v}) = placed loader (load s e v) (omega arith)

  -- ‘A player with fewer than 6 rows is never turned away for want of one’
  pub never_turned_away : {x : Step} {p : ℕ} → Asks x p → p < loader → count_by p s.requests < own_places → (step s x).reply.code ≢ no_place_left
  never_turned_away {x} {p} a lt h e = let t : ◌≡◌ {A = Bool} true false = sym (only_when a e) ∙ own_place_left p s.requests lt h in absurd (true≢false t)

  -- ‘38 when the player has 6 rows or more, or is the loader, and the 16 common rows are in use’: only then
  pub turned_away_when : {x : Step} {p : ℕ} → Asks x p → (step s x).reply.code ≡ no_place_left → ((loader ≤ p) ⊎ (own_places ≤ count_by p s.requests)) × (common_places ≤ common_used s.requests)
  turned_away_when {x} {p} a e =
      let t = only_when a e in
      (either (leb loader p) refl (both_left _ _ t), leb-true common_places (common_used s.requests) (both_right (leb loader p || leb own_places (count_by p s.requests)) _ t))
    where
      either : (b : Bool) → leb loader p ≡ b → (b || leb own_places (count_by p s.requests)) ≡ true → (loader ≤ p) ⊎ (own_places ≤ count_by p s.requests)
      either true u t = inl (leb-true loader p u)
      either false u t = inr (leb-true own_places (count_by p s.requests) t)

  -- and then none goes in, and none is refused for want of a serial: 38 comes before 34
  abbrev StaysOut : Result → Type 0
  StaysOut r = (r.reply.code ≢ (issued 0).code) × (r.reply.code ≢ no_serial_left)

  pub stays_out : {x : Step} {p : ℕ} → Asks x p → no_place p s.requests ≡ true → StaysOut (step s x)
  stays_out (a_guard {p} {g}) t =
      check_elim StaysOut s (leb players p || bad_range g) out_of_range _ (omega arith, omega arith)
      (λ _. check_elim StaysOut s (not (all_entries (owns s p) g.low g.high)) not_owner _ (omega arith, omega arith)
      (λ _. check_elim StaysOut s (any (requesting p g) s.requests) already_requested _ (omega arith, omega arith) (λ _. turned p (request_guard s p g) t)))
  stays_out (a_read {p} {e}) t =
      check_elim StaysOut s (leb players p) out_of_range _ (omega arith, omega arith)
      (λ _. cond_elim StaysOut (cache_hit s p e) (read_from_cache s p e) (need_place s p (read_from_store s p e)) (λ _. (omega arith, omega arith)) (λ _. turned p (read_from_store s p e) t))
  stays_out (a_write {p} {e} {v}) t =
      check_elim StaysOut s (leb players p) out_of_range _ (omega arith, omega arith)
      (λ _. check_elim StaysOut s (not (owns s p e)) not_owner _ (omega arith, omega arith)
      (λ _. check_elim StaysOut s (not (live s p e)) no_live_guard _ (omega arith, omega arith) (λ _. turned p (write s p e v) t)))
  stays_out (a_load {e} {v}) t = turned loader (load s e v) t

-- ---- of tables, by the calls' contract

module _ (st t : List ℕ) where
  -- of any two tables that are lent
  pub call_never_turned_away : {x : Step} {p : ℕ} → Asks x p → p < loader → count_by p (state_of st t).requests < own_places → (called (λ s. step s x) st t).reply.code ≢ no_place_left
  call_never_turned_away {x} {p} a lt h =
      cond_elim (λ (d : Done). d.reply.code ≢ no_place_left) (whole st t) _ _
      (λ _. cond_elim (λ (d : Done). d.reply.code ≢ no_place_left) (valid st t) _ _ (λ _. never_turned_away (state_of st t) a lt h) (λ _. omega arith))
      (λ _. omega arith)

  -- of those that keep the rules: the shares are kept, and that no more than 64 requests are in flight follows from them
  pub tables_shared : T (valid st t) → whole st t ≡ true → Shares (state_of st t).requests × (length (state_of st t).requests ≤ places)
  tables_shared v w = let k = ok_tables st t v (store_long st t w) (players_long st t w) in (k.shares, few_requests k)
