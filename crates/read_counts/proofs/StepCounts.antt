-- What each step does to the read counters: a reply 2 or 3 is counted for the player to whom it goes, and nothing else is.
-- Assumes nothing.
use mathlib.Core.Path.{◌≡◌, refl}
use mathlib.Core.Bool.{cond, ◌||◌}
use mathlib.Core.List.{[], List, ◌∷◌}
use Prim.Native.Nat.{ℕ, ◌≤◌}
use native.Mathlib.Omega.{arith}
use lib.Dec.{T, eqb}
use borrow.Author.Tests.{eq-eqb, ne_eqb}
use Rattle.store.specs.Model.{put}
use Rattle.store.specs.declared.Reply.{Reply}
use Rattle.requests.specs.declared.Request.{Request}
use Rattle.requests.specs.Model.{serial_is, find}
use Rattle.requests.specs.Region.{request_holds}
use Rattle.requests.proofs.Rising.{Each, In, here, there, each_above}
use Rattle.counters.specs.declared.Counts.{Counts}
use Rattle.counters.specs.Model.{counted_by}
use Rattle.players.specs.declared.Step.{Step}
use Rattle.players.specs.Rules.{State, Result, nobody, with_count, step}
use Rattle.players.proofs.Tables.{Ok}
use Rattle.players.proofs.StepFacts.{Answerable}
use Rattle.players.proofs.StepCases.{ByCase, step_elim}
use Rattle.read_counts.specs.Claim.{player_of, reader, answers_read}

-- a serial names one request of a list in which they rise
find_named : {A : Type 0} (Q : Request → Type 0) (p : ℕ) (rs : List Request) → Each Q p rs → (r : Request) → In r rs → (n : ℕ) → r.serial ≡ n → (none : A) (some : Request → A) → find (serial_is n) rs none some ≡ some r
find_named Q p (r ∷ rs) t _ here n e none some = rw (eq-eqb r.serial n e)
find_named {A = A} Q p [] t r x3 n e none some = elim x3 [ ]
find_named Q p (q ∷ rs) t r (there i) n e none some =
    let a = each_above Q q.serial rs t.2 r i in
    rw (ne_eqb q.serial n (omega arith)) (find_named Q q.serial rs t.2 r i n e none some)

-- the counters after a reply to the player q
abbrev pub after_reply : (ℕ → Counts) → ℕ → Reply → ℕ → Counts
after_reply cs q r = cond (answers_read r) (put q (counted_by (cs q) r.code) cs) cs

module _ (s : State) (k : Ok s) where
  -- the claim about a step and its result
  abbrev CountsIt : Step → Result → Type 0
  CountsIt x r = r.state.counters ≡ after_reply s.counters (reader s x) r.reply

  -- a refusal is no answer
  refused : (x : Step) (n : ℕ) → 28 ≤ n → s.counters ≡ cond (eqb n 2 || eqb n 3) (put (reader s x) (counted_by (s.counters (reader s x)) n) s.counters) s.counters
  refused x n h = rw (ne_eqb n 2 (omega arith), ne_eqb n 3 (omega arith))

  -- an answer is that of the request that it names
  answerer : (r : Request) (n : ℕ) → Answerable s r n → player_of s n ≡ r.player
  answerer r n w = find_named (λ q. T (request_holds s.last q)) 0 s.requests k.requests r w.member n w.serial nobody (λ q. q.player)

  -- so a read answered from the store is counted for the right player
  read_answered : (r : Request) (n : ℕ) → Answerable s r n → (with_count s r.player 3).counters ≡ (with_count s (player_of s n) 3).counters
  read_answered r n w = rw (answerer r n w)

  count_cases : ByCase CountsIt s
  count_cases =
      record {
        refused = refused;
        assigned = λ p g _ _ _. refl;
        released = λ g _ _. refl;
        requested = λ p g _ _ _ _. refl;
        reads_cache = λ p e _ _. refl;
        reads_store = λ p e _ _. refl;
        writes = λ p e v _ _ _. refl;
        set = λ r n _ _ _. refl;
        unset = λ r n _ _ _. refl;
        fetched = λ r n _ _. refl;
        takes_effect = λ r n _ _ _ _. refl;
        rejects = λ r n _ _ _ _. refl;
        granted = λ r n _ _ _ _. refl;
        layout = λ r n _. refl;
        not_held = λ r n _. refl;
        read_cached = λ r n w _ _. read_answered r n w;
        read_not_cached = λ r n w _. read_answered r n w;
        write_cached = λ r n _ _ _ _ _. refl;
        write_not_cached = λ r n _ _ _ _. refl;
        write_rejected = λ r n _ _ _ _ _. refl;
        load_rejected = λ r n _ _ _ _ _. refl;
        write_dropped = λ r n _ _. refl;
        request_dropped = λ r n _. refl;
        write_marked = λ r n _ _ _ _. refl;
        request_marked = λ r n _ _ _. refl;
        loses = λ r n _. refl;
        splits = λ e _. refl;
        merges = λ e _. refl;
        restarts_tablet = λ e. refl;
        restarts_player = λ p _. refl;
        finds = λ e. refl;
        loads = λ e v _. refl;
      }

  pub step_counts : (x : Step) → (step s x).state.counters ≡ after_reply s.counters (reader s x) (step s x).reply
  step_counts = step_elim CountsIt s count_cases
