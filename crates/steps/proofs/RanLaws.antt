-- The ways a run's call ends.
-- Assumes nothing.
use mathlib.Core.Path.{◌≡◌, refl, ap}
use mathlib.Core.Bool.{Bool, true, false, cond}
use mathlib.Core.List.{List}
use Prim.Native.Nat.{ℕ, ◌≤◌}
use native.Mathlib.Omega.{arith}
use lib.Dec.{leb, ltb}
use lib.ListN.{length}
use borrow.Author.Tests.{leb-true, leb-false, le-ltb}
use Rattle.store.specs.Table.{table_of as store_table}
use Rattle.store.specs.declared.Reply.{Reply}
use Rattle.players.specs.Replies.{refusal}
use Rattle.players.specs.Rules.{State}
use Rattle.players.specs.Table.{state_of, table_of, valid}
use Rattle.players.specs.Calls.{whole, Done, checked}
use Rattle.players.proofs.CallLaws.{same_tables, passed}
use Rattle.session.specs.Mark.{mark, marked}
use Rattle.session.specs.Runs.{report, no_mark, too_long, longest, stopped, allowed, run_marked, run, whole_places}
use Rattle.steps.specs.RunCalls.{Finished, finished, encoded, ran}
use Rattle.steps.specs.InnerRun.{Ready}
use Rattle.session.proofs.MarkLaws.{begins-take}
use Rattle.session.proofs.WriteLaws.{take_whole}

-- no more records than the budget, and than the places
pub allowed_few : (budget places : ℕ) → (allowed budget places ≤ budget) × (allowed budget places ≤ places)
allowed_few budget places = by (leb budget places) refl
  where
    by : (b : Bool) → leb budget places ≡ b → (cond b budget places ≤ budget) × (cond b budget places ≤ places)
    by true e = (omega arith, leb-true budget places e)
    by false e = let h = leb-false budget places e in (omega arith, omega arith)

-- what the tests of a run that is not refused have shown
pub ready : (st t session : List ℕ) (budget : ℕ) (list : List ℕ) (r : Reply) → r ≡ checked st t → r.code ≡ 0 → length session ≤ longest → marked session ≡ true
    → (left : ℕ) → left ≡ allowed budget (whole_places list) → budget ≤ 4294967295 → Ready st t session left list
ready st t session budget list r e z short m left h k =
    let p = passed st t r e z in
    let f = allowed_few budget (whole_places list) in
    record {
      lengths = p.0;
      keeps = rw p.1 tt;
      marked = take_whole (length mark) session mark (begins-take mark session m) refl;
      short = short;
      room = omega (arith, f.1);
      few = omega (arith, f.0);
    }

-- and what it gives
pub all_taken : (st t session : List ℕ) (budget : ℕ) (list : List ℕ) (r : Reply) → r ≡ checked st t → r.code ≡ 0 → length session ≤ longest → marked session ≡ true
    → (x : Finished) → x ≡ encoded list (run_marked (state_of st t) session budget (whole_places list)) → x ≡ ran st t session budget list
all_taken st t session budget list r e z short m x h =
    let p = passed st t r e z in
    rw (p.0, p.1, le-ltb longest (length session) short, m) h

-- on tables that keep the rules, what is left is what the run of their state leaves
pub ran-run : (st t session : List ℕ) (budget : ℕ) (list : List ℕ) → whole st t ≡ true → valid st t ≡ true
    → ran st t session budget list ≡ encoded list (run (state_of st t) session budget (whole_places list))
ran-run st t session budget list w v = rw (w, v) (by (ltb longest (length session)) (marked session))
  where
    s : State
    s = state_of st t

    unchanged : (n : ℕ) → finished (report n 0 0) list st t ≡ encoded list (stopped n 0 s)
    unchanged n =
        let d = same_tables st t w (rw v tt) (refusal 0) in
        let es : store_table s.store ≡ st = ap (λ (x : Done). x.store) d in
        let et : table_of s ≡ t = ap (λ (x : Done). x.players) d in
        rw (es, et)

    by : (a m : Bool)
        → cond a (finished (report too_long 0 0) list st t) (cond m (encoded list (run_marked s session budget (whole_places list))) (finished (report no_mark 0 0) list st t))
        ≡ encoded list (cond a (stopped too_long 0 s) (cond m (run_marked s session budget (whole_places list)) (stopped no_mark 0 s)))
    by true m = unchanged too_long
    by false true = refl
    by false false = unchanged no_mark
