-- A run from fresh tables, and how many records a run takes.
-- Assumes nothing.
use mathlib.Core.Path.{◌≡◌, ◌∙◌, refl, ap}
use mathlib.Core.Bool.{true}
use mathlib.Core.List.{List}
use Prim.Native.Nat.{ℕ, zero, suc, ◌+◌, ◌≤◌}
use native.Mathlib.Omega.{arith}
use lib.Dec.{eqb, ltb}
use lib.ListN.{length, drop}
use borrow.Author.Tests.{eq-eqb}
use Rattle.store.specs.Table.{table_of as store_table}
use Rattle.store.proofs.Tables.{table_parts as store_parts}
use Rattle.requests.proofs.Basics.{is_true, cond_elim}
use Rattle.players.specs.Rules.{State, step, fresh}
use Rattle.players.specs.Table.{players_words, table_of, valid}
use Rattle.players.specs.Calls.{whole}
use Rattle.players.proofs.Tables.{length_of, state_table, ok_fresh}
use Rattle.players.proofs.CallLaws.{fresh-valid}
use Rattle.session.specs.Decoded.{Decoded, Record, Refused}
use Rattle.session.specs.Records.{decode}
use Rattle.session.specs.Mark.{mark, marked}
use Rattle.session.specs.Runs.{Run, at_end, no_mark, too_long, stopped, took, on_record, run_from, allowed, run, longest, whole_places}
use Rattle.steps.specs.RunCalls.{encoded, ran}
use Rattle.steps.proofs.RanLaws.{allowed_few, ran-run}

-- ---- how many records a run takes

-- as many as it has replies, and no more than it may
pub record Counted (left : ℕ) (r : Run) : Type 0 where
  pub replied : r.report.records ≡ length r.replies
  pub few : length r.replies ≤ left

none : (left why place : ℕ) (s : State) → Counted left (stopped why place s)
none left why place s = record { replied = refl; few = omega arith }

-- by what stands at a place
next : (left place : ℕ) (s : State) (d : Decoded) (part : List ℕ)
    → ((s' : State) (place' : ℕ) (part' : List ℕ) → Counted left (run_from left s' place' part'))
    → Counted (suc left) (on_record d (λ x n. took (step s x).reply (run_from left (step s x).state (place + n) (drop n part))) (λ n. stopped n place s))
next left place s (Record x n) part h =
    let c = h (step s x).state (place + n) (drop n part) in
    record { replied = ap suc c.replied; few = omega (arith, c.few) }
next left place s (Refused n) part h = none (suc left) n place s

pub counted_from : (left : ℕ) (s : State) (place : ℕ) (part : List ℕ) → Counted left (run_from left s place part)
unfolding run_from
counted_from zero s place part = none zero _ place s
counted_from (suc left) s place part =
    cond_elim (Counted (suc left)) (eqb (length part) 0) _ _ (λ _. none (suc left) at_end place s) (λ _. next left place s (decode part) part (counted_from left))

pub counted : (s : State) (session : List ℕ) (budget places : ℕ) → Counted places (run s session budget places)
counted s session budget places =
    let f = allowed_few budget places in
    let c = counted_from (allowed budget places) s 4 (drop (length mark) session) in
    cond_elim (Counted places) (ltb longest (length session)) _ _ (λ _. none places too_long 0 s) (λ _.
    cond_elim (Counted places) (marked session) _ _ (λ _. record { replied = c.replied; few = omega (arith, f.1, c.few) }) (λ _. none places no_mark 0 s))

-- ---- from fresh tables

pub fresh-ran : (session : List ℕ) (budget : ℕ) (list : List ℕ)
    → ran (store_table fresh.store) (table_of fresh) session budget list ≡ encoded list (run fresh session budget (whole_places list))
fresh-ran session budget list =
    let st = store_table fresh.store in
    let t = table_of fresh in
    let w : whole st t ≡ true = rw (eq-eqb (length st) 1280 (store_parts fresh.store).whole, eq-eqb (length t) players_words (length_of fresh)) in
    ran-run st t session budget list w (is_true (valid st t) fresh-valid)
    ∙ ap (λ (s : State). encoded list (run s session budget (whole_places list))) (state_table fresh ok_fresh)
