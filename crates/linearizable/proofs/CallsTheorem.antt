-- Any calls in any order from fresh tables are linearizable.
-- Assumes nothing.
use mathlib.Core.Path.{◌≡◌, refl, sym, ap, ◌∙◌, subst}
use mathlib.Core.Bool.{true}
use mathlib.Core.List.{List, [], ◌∷◌, ◌++◌}
use Prim.Native.Nat.{ℕ}
use lib.ListN.{length}
use borrow.Author.Tests.{eq-eqb}
use Rattle.store.specs.Table.{table_of as store_table}
use Rattle.store.proofs.Tables.{table_parts as store_parts}
use Rattle.requests.proofs.Basics.{is_true}
use Rattle.players.specs.declared.Step.{Step}
use Rattle.players.specs.Rules.{State, replies, fresh}
use Rattle.players.specs.Table.{players_words, table_of, valid}
use Rattle.players.specs.Calls.{whole}
use Rattle.players.specs.Played.{AllFit, tables_of, state_after}
use Rattle.players.proofs.Tables.{Ok, length_of, valid_table, state_table, ok_fresh}
use Rattle.players.proofs.PlayedLaws.{replies-append, after-append, taken_is, ok_after}
use Rattle.session.specs.Runs.{run, whole_places}
use Rattle.steps.specs.RunCalls.{encoded, ran}
use Rattle.steps.proofs.LoopLaws.{replies_filled}
use Rattle.steps.proofs.RanLaws.{ran-run}
use Rattle.steps.proofs.FreshRuns.{counted}
use Rattle.session.specs.Fields.{six}
use Rattle.famdrize.proofs.CallLaws.{ByNumbers, takes, refuses, by_numbers}
use Rattle.linearizable.specs.Tables.{store_in}
use Rattle.linearizable.specs.Calls.{Call, a_step, exported_step, a_run, a_preview, exported_preview, a_run_preview, Handed, AllHanded, steps_of, left_by, replies_of, all_steps, all_replies, after_all, LinearizableCalls}
use Rattle.linearizable.proofs.Theorem.{theorem}
use Rattle.linearizable.proofs.SessionTheorem.{run_of_steps}
use Rattle.linearizable.proofs.RunTheorem.{bytes_fit}

-- ---- one call on the tables that hold a state

record Does (s : State) (c : Call) : Type 0 where
  fit : AllFit (steps_of c)
  replied : replies_of (tables_of s) c ≡ replies s (steps_of c)
  left : left_by (tables_of s) c ≡ tables_of (state_after s (steps_of c))

does_step : (s : State) → Ok s → (x : Step) → Handed (a_step x) → Does s (a_step x)
unfolding state_after
does_step s k x h =
    let e = taken_is s k x in
    record { fit = (h, tt); replied = rw e; left = rw e }

-- a step by its numbers, or none
does_numbers : (s : State) → Ok s → (k p e h v n : ℕ) → ByNumbers (six k p e h v n) → Does s (exported_step k p e h v n)
unfolding state_after
does_numbers s o k p e h v n (takes x f is did) =
    let t = did (store_table s.store) (table_of s) ∙ taken_is s o x in
    record { fit = rw is (f, tt); replied = rw (is, t); left = rw (is, t) }
does_numbers s o k p e h v n (refuses m is did) =
    let t = did (store_table s.store) (table_of s) in
    record { fit = rw is tt; replied = rw is; left = rw (is, t) }

ran_is : (s : State) → Ok s → (session : List ℕ) (budget : ℕ) (list : List ℕ) → ran (store_table s.store) (table_of s) session budget list ≡ encoded list (run s session budget (whole_places list))
ran_is s k session budget list =
    let st = store_table s.store in
    let t = table_of s in
    let w : whole st t ≡ true = rw (eq-eqb (length st) 1280 (store_parts s.store).whole, eq-eqb (length t) players_words (length_of s)) in
    ran-run st t session budget list w (is_true (valid st t) (valid_table s k))
    ∙ ap (λ (z : State). encoded list (run z session budget (whole_places list))) (state_table s k)

does_run : (s : State) → Ok s → (session : List ℕ) (budget : ℕ) (list : List ℕ) → Handed (a_run session budget list) → Does s (a_run session budget list)
does_run s k session budget list h =
    let e = ran_is s k session budget list in
    let r = run s session budget (whole_places list) in
    let o = run_of_steps s session budget (whole_places list) in
    let n = counted s session budget (whole_places list) in
    record {
      fit = bytes_fit session budget (whole_places list) h;
      replied = rw (e, n.replied) (replies_filled list r.replies ∙ o.replied);
      left = rw (e, ← o.left);
    }

-- a preview takes no step, and leaves the tables
does_nothing : (s : State) (c : Call) → steps_of c ≡ [] → replies_of (tables_of s) c ≡ [] → left_by (tables_of s) c ≡ tables_of s → Does s c
unfolding state_after
does_nothing s c none r l = record { fit = rw none tt; replied = rw (none, r); left = rw none l }

does : (s : State) → Ok s → (c : Call) → Handed c → Does s c
does s k (a_step x) h = does_step s k x h
does s k (exported_step kind p e g v n) h = does_numbers s k kind p e g v n (by_numbers kind p e g v n h)
does s k (a_run session budget list) h = does_run s k session budget list h
does s k (a_preview x) h = does_nothing s (a_preview x) refl refl refl
does s k (exported_preview kind p e g v n) h = does_nothing s (exported_preview kind p e g v n) refl refl refl
does s k (a_run_preview session budget list) h = does_nothing s (a_run_preview session budget list) refl refl refl

-- ---- all of them

fit_append : (xs ys : List Step) → AllFit xs → AllFit ys → AllFit (xs ++ ys)
fit_append [] ys f g = g
fit_append (x ∷ xs) ys f g = (f.0, fit_append xs ys f.1 g)

pub record All (s : State) (cs : List Call) : Type 0 where
  pub fit : AllFit (all_steps cs)
  pub replied : all_replies (tables_of s) cs ≡ replies s (all_steps cs)
  pub left : after_all (tables_of s) cs ≡ tables_of (state_after s (all_steps cs))
  pub ok : Ok (state_after s (all_steps cs))

pub all : (s : State) → Ok s → (cs : List Call) → AllHanded cs → All s cs
unfolding all_replies after_all all_steps state_after
all s k [] h = record { fit = tt; replied = refl; left = refl; ok = k }
all s k (c ∷ cs) h =
    let d = does s k c h.0 in
    let s' = state_after s (steps_of c) in
    let r = all s' (ok_after s k (steps_of c) d.fit) cs h.1 in
    record {
      fit = fit_append (steps_of c) (all_steps cs) d.fit r.fit;
      replied = rw (d.replied, d.left, r.replied, replies-append s (steps_of c) (all_steps cs));
      left = rw (d.left, r.left, after-append s (steps_of c) (all_steps cs));
      ok = subst Ok (sym (after-append s (steps_of c) (all_steps cs))) r.ok;
    }

pub calls_theorem : (cs : List Call) → LinearizableCalls cs
calls_theorem cs h st t w =
    let a = all fresh ok_fresh cs h in
    let xs = all_steps cs in
    let stored : store_in (tables_of (state_after fresh xs)) ≡ (state_after fresh xs).store = ap (λ (s : State). s.store) (state_table (state_after fresh xs) a.ok) in
    rw (w, a.replied, a.left, stored) (theorem xs)
