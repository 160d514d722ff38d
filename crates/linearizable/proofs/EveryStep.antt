-- What this crate claims of every step: it keeps the invariant, and it is a move. A new kind is a line of each list here.
-- Assumes nothing.
use mathlib.Core.Path.{refl}
use mathlib.Core.Logic.{inl}
use mathlib.Core.List.{List}
use native.Mathlib.Omega.{arith}
use Rattle.store.specs.Model.{put, restarted, with_boundary}
use Rattle.store.proofs.GuardChanges.{restart}
use Rattle.players.specs.declared.Step.{Step}
use Rattle.players.specs.declared.Step.TheVariants.{Assign, Release}
use Rattle.players.specs.Rules.{State, removed, set_boundary, step, nobody}
use Rattle.players.proofs.StepCases.{ByCase, step_elim}
use Rattle.linearizable.specs.Ledger.{Event, Ledger}
use Rattle.linearizable.proofs.Invariant.{Inv}
use Rattle.linearizable.proofs.KeptByStep.{Keeps, counters_keep, owner_keeps, guard_request_keeps, read_keeps, write_keeps, set_keeps, no_effect_keeps, fetched_keeps, commit_keeps, is_write_kind, granted_keeps, removed_keeps, cache_keeps, drop_guard_keeps, write_marked_keeps, marked_keeps, store_keeps, tablet_keeps, restart_keeps, load_keeps}
use Rattle.linearizable.proofs.Simulation.{Sim}
use Rattle.linearizable.proofs.Moves.{counters_move}
use Rattle.linearizable.proofs.StepMoves.{Goal, unaltered, refused, owned, request_begins, cache_read_begins, read_begins, write_begins, guard_set, guard_not_set, read_delivered, write_committed_now, write_rejected_now, grants, leaves, answers, cached_guards, read_answered, committed_answered, rejected_answered, dropped_guards, marks, store_changes, player_restarts, load_begins}

-- ---- the invariant

kept_cases : (s : State) → Inv s → ByCase (λ x. Keeps) s
kept_cases s i =
    record {
      refused = λ x n h. i;
      assigned = λ p g _ _ _. owner_keeps s i p g;
      released = λ g _ _. owner_keeps s i nobody g;
      requested = λ p g _ _ _ t. guard_request_keeps s i p g t;
      reads_cache = λ p e _ h. counters_keep s i _;
      reads_store = λ p e lt _. read_keeps s i p e lt;
      writes = λ p e v lt _ l. write_keeps s i p e v lt l;
      set = λ r n w k t. set_keeps s i r n w k;
      unset = λ r n w k t. no_effect_keeps s i r n w (omega arith);
      fetched = λ r n w k. fetched_keeps s i r n w k;
      takes_effect = λ r n w a b t. commit_keeps s i r n w (is_write_kind s i r w.member a b) t;
      rejects = λ r n w a b t. no_effect_keeps s i r n w b;
      granted = λ r n w k h o. granted_keeps s i r n w k h o;
      layout = λ r n _. removed_keeps s i r;
      not_held = λ r n _. removed_keeps s i r;
      read_cached = λ r n w k v. counters_keep _ (cache_keeps s i r n w r.first r.second (omega arith) v (λ y. (y.read_version k, y.read_value k))) _;
      read_not_cached = λ r n w k. counters_keep _ (removed_keeps s i r) _;
      write_cached = λ r n w a b o v. let k = is_write_kind s i r w.member a b in cache_keeps s i r n w r.serial r.value a v (λ y. (y.write_version k o, y.write_value k o));
      write_not_cached = λ r n w a b o. removed_keeps s i r;
      write_rejected = λ r n w a b o _. drop_guard_keeps (removed s r) (removed_keeps s i r) r.player r.guard;
      load_rejected = λ r n w a b o _. removed_keeps s i r;
      write_dropped = λ r n _ _. drop_guard_keeps (removed s r) (removed_keeps s i r) r.player r.guard;
      request_dropped = λ r n _. removed_keeps s i r;
      write_marked = λ r n w k _ a. write_marked_keeps s i r w.member a;
      request_marked = λ r n w k a. marked_keeps s i r w.member a (λ h u. absurd (u ((i.request r w.member).load (k h))));
      loses = λ r n _. removed_keeps s i r;
      splits = λ e _. store_keeps s i (set_boundary s e 1).state.store (λ x h. refl) (λ x. refl) (λ x. refl);
      merges = λ e _. store_keeps s i (set_boundary s e 0).state.store (λ x h. refl) (λ x. refl) (λ x. refl);
      restarts_tablet = λ e. tablet_keeps s i e;
      restarts_player = λ p _. restart_keeps s i p;
      finds = λ e. i;
      loads = λ e v _. load_keeps s i e v;
    }

pub step_keeps : (s : State) (x : Step) → Inv s → Inv (step s x).state
step_keeps s x i = step_elim (λ y. Keeps) s (kept_cases s i) x

-- ---- the history, its ledger and the state

module _ {h : List Event} {s : State} {l : Ledger} (sim : Sim h s l) (inv : Inv s) where
  move_cases : ByCase (Goal sim inv) s
  move_cases =
      record {
        refused = refused sim inv;
        assigned = λ p g _ _ _. owned sim inv (Assign p g) p g refl refl;
        released = λ g _ _. owned sim inv (Release g) nobody g refl refl;
        requested = λ p g _ _ _ t. request_begins sim inv p g;
        reads_cache = λ p e _ t. counters_move (cache_read_begins sim inv p e t) _;
        reads_store = λ p e _ _. read_begins sim inv p e;
        writes = λ p e v _ _ l. write_begins sim inv p e v l;
        set = guard_set sim inv;
        unset = guard_not_set sim inv;
        fetched = read_delivered sim inv;
        takes_effect = write_committed_now sim inv;
        rejects = write_rejected_now sim inv;
        granted = λ r n w k h o. grants sim inv r n w k o;
        layout = λ r n _. leaves sim inv _ r s.player (λ p e. inl refl) refl refl;
        not_held = λ r n _. leaves sim inv _ r s.player (λ p e. inl refl) refl refl;
        read_cached = λ r n w k v. counters_move (answers sim inv r n w _ _ (cached_guards sim inv r n w _) refl (read_answered sim inv r n w k)) _;
        read_not_cached = λ r n w k. counters_move (answers sim inv r n w _ s.player (λ p e. inl refl) refl (read_answered sim inv r n w k)) _;
        write_cached = λ r n w a b o v. answers sim inv r n w _ _ (cached_guards sim inv r n w _) refl (committed_answered sim inv r n w a b o);
        write_not_cached = λ r n w a b o. answers sim inv r n w _ s.player (λ p e. inl refl) refl (committed_answered sim inv r n w a b o);
        write_rejected = λ r n w a b o _. answers sim inv r n w _ _ (dropped_guards sim inv r.player r.guard) refl (rejected_answered sim inv r n w a b o);
        load_rejected = λ r n w a b o _. answers sim inv r n w _ s.player (λ p e. inl refl) refl (rejected_answered sim inv r n w a b o);
        write_dropped = λ r n _ _. leaves sim inv _ r _ (dropped_guards sim inv r.player r.guard) refl refl;
        request_dropped = λ r n _. leaves sim inv _ r s.player (λ p e. inl refl) refl refl;
        write_marked = λ r n w k _ a. marks sim inv n r _ (dropped_guards sim inv r.player r.guard);
        request_marked = λ r n w k a. marks sim inv n r s.player (λ p e. inl refl);
        loses = λ r n _. leaves sim inv _ r s.player (λ p e. inl refl) refl refl;
        splits = λ e _. store_changes sim inv _ (λ st. with_boundary st (put e 1 st.boundary)) (λ k. inl refl) refl refl;
        merges = λ e _. store_changes sim inv _ (λ st. with_boundary st (put e 0 st.boundary)) (λ k. inl refl) refl refl;
        restarts_tablet = λ e. store_changes sim inv _ (λ st. restarted st e) (restart s.store e).guard refl refl;
        restarts_player = λ p _. player_restarts sim inv p;
        finds = λ e. unaltered sim inv _ refl refl;
        loads = λ e v _. load_begins sim inv e v;
      }

  pub moves : (x : Step) → Goal sim inv x (step s x)
  moves = step_elim (Goal sim inv) s move_cases
