-- Wrong readings of document 02 §4, each against the whole promise of `steps::previews::preview` or of `steps::previews::preview_run`, as
-- WrongPrograms has it of steps and runs: each theorem says what the fault is, and that no program with it keeps the promise.
-- Assumes nothing.
use mathlib.Core.Path.{◌≡◌, ap, refl, sym, ◌∙◌}
use mathlib.Core.Bool.{true}
use mathlib.Core.List.{List, [], ◌∷◌, map}
use Prim.Native.Nat.{ℕ, ◌<◌, ◌≤◌}
use native.Mathlib.Omega.{arith}
use lib.ListN.{get_or, drop}
use Rattle.store.specs.Model.{unbroken, tablet_first, tablet_end}
use Rattle.store.specs.Table.{part as part_of, seek, guard_at, store_of, coded, laid, listed, table_of as store_table, at_most, guard_holds, rising, intervals, boundaries, valid as valid_store}
use Rattle.store.specs.declared.Reply.{Reply}
use Rattle.requests.specs.Region.{request_of, requests_from, requests_of, placed, fields_hold, outcome_holds, request_holds, words_fit, places_hold, valid as valid_requests}
use Rattle.counters.specs.Model.{counted as counted_read, counted_by}
use Rattle.counters.specs.Region.{counts_of, words_from, region_of as counter_region, all_sound, valid as valid_counters}
use Rattle.players.specs.declared.Step.{Step}
use Rattle.players.specs.declared.Step.TheVariants.{Assign, Read, Deliver, Split}
use Rattle.players.specs.Regions.{region}
use Rattle.players.specs.Table.{cell, state_of, table_of, cached_holds, cached_all, valid, valid_players}
use Rattle.players.specs.Played.{state_after}
use Rattle.players.specs.Cases.{range}
use Rattle.players.specs.Kinds.{map_of, step_of}
use Rattle.session.specs.Layout.{fields_length, record_length, fields}
use Rattle.session.specs.Records.{tested}
use Rattle.session.specs.Mark.{begins}
use Rattle.session.specs.Runs.{run_from, allowed, steps_from, steps, preview_budget, whole_places}
use Rattle.steps.specs.RunCalls.{reply_at}
use Rattle.steps.specs.Previews.{previewed, RunPreview, previewed_run}
use Rattle.steps.proofs.PreviewedRuns.{preview_takes_few}
use Rattle.steps.proofs.Refusals.{refuses_run, run_preview_keeps}
use Rattle.cases.proofs.WrongPrograms.{Words, Handed, store_after, players_after, asked, read_answered, words, fits, at, word, HandedRun, two_reads, three_places, reads_handed, spent_ran}

-- ---- document 02 §4: wrong previews of a step

-- what a program gives for a step and two tables that it can only read
abbrev Previewing : Type 0
Previewing = Step → List ℕ → List ℕ → Reply

-- it keeps the promise of `steps::previews::preview`
abbrev KeepsPreview : Previewing → Type 0
KeepsPreview f = (x : Step) (st t : List ℕ) → Handed x st t → f x st t ≡ previewed x st t

-- which can be kept
pub preview_promise : KeepsPreview previewed
preview_promise x st t h = refl

-- fresh tables but for the boundary before entry 0, which is gone
abbrev broken_store : List ℕ
broken_store = 0 ∷ drop 1 (store_after [])

broken_words : Words broken_store
unfolding at_most coded laid store_table listed state_after
broken_words = tt

-- on fresh tables an assignment, and an arrival of no request; the arrival where there is one; a read that is remembered; on tables that break a rule
preview_rows :
    map (λ (r : Reply). r.code ∷ [])
    (previewed (Assign 0 (range 0 9)) (store_after []) (players_after [])
    ∷ previewed (Deliver 2) (store_after []) (players_after [])
    ∷ previewed (Deliver 2) (store_after asked) (players_after asked)
    ∷ previewed (Read 0 1) (store_after read_answered) (players_after read_answered)
    ∷ previewed (Split 5) broken_store (players_after [])
    ∷ [])
    ≡ (1 ∷ []) ∷ (32 ∷ []) ∷ (0 ∷ []) ∷ (2 ∷ []) ∷ (22 ∷ []) ∷ []
unfolding unbroken tablet_first tablet_end seek guard_at request_of requests_from requests_of fields_hold outcome_holds request_holds words_fit cell region at_most cached_holds cached_all placed places_hold valid_requests counts_of words_from counter_region all_sound valid_counters counted_read counted_by boundaries intervals rising guard_holds coded laid valid valid_players valid_store state_of store_of part_of store_table table_of listed state_after
preview_rows = refl

module _ (f : Previewing) (k : KeepsPreview f) where
  -- the code of a preview of a step on tables, as the row with this number has it
  code : (x : Step) (st t : List ℕ) (n : ℕ) → Handed x st t → (previewed x st t).code ≡ n → (f x st t).code ≡ n
  code x st t n h e = ap (λ (r : Reply). r.code) (k x st t h) ∙ e

  assigning : (f (Assign 0 (range 0 9)) (store_after []) (players_after [])).code ≡ 1
  assigning = code (Assign 0 (range 0 9)) (store_after []) (players_after []) 1 (fits.1, words.0, words.1) (at 0 0 preview_rows)

  -- one that tests, and says 0 to all that it does not refuse
  pub preview_tests_alone : ((x : Step) (st t : List ℕ) → Handed x st t → (f x st t).code < 21 → (f x st t).code ≡ 0) → ⊥
  preview_tests_alone fault =
      let x = Assign 0 (range 0 9) in
      omega (arith, assigning, fault x (store_after []) (players_after []) (fits.1, words.0, words.1) (omega (arith, assigning)))

  -- one that refuses nothing for what a step needs: the tables' tests, 21 and 22, are all
  pub preview_refuses_nothing : ((x : Step) (st t : List ℕ) → Handed x st t → (f x st t).code ≤ 22) → ⊥
  preview_refuses_nothing fault =
      omega (
        arith,
        fault (Deliver 2) (store_after []) (players_after []) (fits.2, words.0, words.1),
        code (Deliver 2) (store_after []) (players_after []) 32 (fits.2, words.0, words.1) (at 1 0 preview_rows),
      )

  -- one that trusts the tables
  pub preview_trusts : ((x : Step) (st t : List ℕ) → Handed x st t → (f x st t).code ≡ 22 → ⊥) → ⊥
  preview_trusts fault = fault (Split 5) broken_store (players_after []) (fits.0, broken_words, words.1) (code (Split 5) broken_store (players_after []) 22 (fits.0, broken_words, words.1) (at 4 0 preview_rows))

  -- one that looks at the step alone
  pub preview_blind : ((x : Step) (st t st' t' : List ℕ) → Handed x st t → Handed x st' t' → (f x st t).code ≡ (f x st' t').code) → ⊥
  preview_blind fault =
      let none = code (Deliver 2) (store_after []) (players_after []) 32 (fits.2, words.0, words.1) (at 1 0 preview_rows) in
      let one = code (Deliver 2) (store_after asked) (players_after asked) 0 (fits.2, words.2, words.3) (at 2 0 preview_rows) in
      omega (arith, none, one, fault (Deliver 2) (store_after []) (players_after []) (store_after asked) (players_after asked) (fits.2, words.0, words.1) (fits.2, words.2, words.3))

  -- one that never tells of a read from memory
  pub preview_forgets : ((p i : ℕ) (st t : List ℕ) → Handed (Read p i) st t → (f (Read p i) st t).code ≡ 2 → ⊥) → ⊥
  preview_forgets fault =
      fault 0 1 (store_after read_answered) (players_after read_answered) (fits.4, words.6, words.7)
      (code (Read 0 1) (store_after read_answered) (players_after read_answered) 2 (fits.4, words.6, words.7) (at 3 0 preview_rows))

-- ---- document 02 §4: wrong previews of a run

-- what a program gives for two tables that it can only read, a session, a budget and a list for replies
abbrev PreviewingRun : Type 0
PreviewingRun = List ℕ → List ℕ → List ℕ → ℕ → List ℕ → RunPreview

-- it keeps the promise of `steps::previews::preview_run`
abbrev KeepsRunPreview : PreviewingRun → Type 0
KeepsRunPreview f = (st t session : List ℕ) (budget : ℕ) (list : List ℕ) → HandedRun st t session budget list → f st t session budget list ≡ previewed_run st t session budget list

-- which can be kept
pub run_preview_promise : KeepsRunPreview previewed_run
run_preview_promise st t session budget list h = refl

-- the two reads from fresh tables, with a budget of 9 and of 17: why the preview stops, how many records it took, and the serials of the two replies
run_preview_rows :
    map (λ (p : RunPreview). p.report.why ∷ p.report.records ∷ get_or p.list 1 0 ∷ get_or p.list 4 0 ∷ [])
    (previewed_run (store_after []) (players_after []) two_reads 9 three_places ∷ previewed_run (store_after []) (players_after []) two_reads 17 three_places ∷ [])
    ≡ (0 ∷ 2 ∷ 1 ∷ 2 ∷ []) ∷ (0 ∷ 2 ∷ 1 ∷ 2 ∷ []) ∷ []
unfolding fields_length record_length fields map_of step_of tested begins run_from unbroken tablet_first tablet_end seek guard_at request_of requests_from requests_of fields_hold outcome_holds request_holds words_fit cell region at_most cached_holds cached_all placed places_hold valid_requests counts_of words_from counter_region all_sound valid_counters counted_read counted_by boundaries intervals rising guard_holds coded laid valid valid_players valid_store state_of store_of part_of store_table table_of listed state_after
run_preview_rows = refl

long_budget : HandedRun (store_after []) (players_after []) two_reads 17 three_places
unfolding at_most
long_budget = (words.0, words.1, tt, omega arith, tt)

-- one that takes more than 16 records, on any tables, with any session, budget and list
pub preview_takes_more : (f : PreviewingRun) (st t session : List ℕ) (budget : ℕ) (list : List ℕ) → HandedRun st t session budget list
    → 16 < (f st t session budget list).report.records → KeepsRunPreview f → ⊥
preview_takes_more f st t session budget list h more k =
    omega (arith, more, ap (λ (p : RunPreview). p.report.records) (k st t session budget list h), preview_takes_few st t session budget list)

-- one that stops with 9 though 16, the budget and the list allow more records
pub preview_stops_early : (f : PreviewingRun) (st t session : List ℕ) (budget : ℕ) (list : List ℕ) → HandedRun st t session budget list
    → (f st t session budget list).report.why ≡ 9 → (f st t session budget list).report.records < allowed (preview_budget budget) (whole_places list) → KeepsRunPreview f → ⊥
preview_stops_early f st t session budget list h nine few k =
    let same = k st t session budget list h in
    let w = sym (ap (λ (p : RunPreview). p.report.why) same) ∙ nine in
    omega (arith, few, ap (λ (p : RunPreview). p.report.records) same, spent_ran st t session (preview_budget budget) list w)

-- one that refuses a budget above 16, or takes no record with it
pub preview_refuses_budget : (f : PreviewingRun) → ((st t session : List ℕ) (budget : ℕ) (list : List ℕ) → HandedRun st t session budget list → 16 < budget → (f st t session budget list).report.records ≡ 0)
    → KeepsRunPreview f → ⊥
preview_refuses_budget f fault k =
    let e = k (store_after []) (players_after []) two_reads 17 three_places long_budget in
    omega (arith, fault (store_after []) (players_after []) two_reads 17 three_places long_budget (omega arith), ap (λ (p : RunPreview). p.report.records) e, at 1 1 run_preview_rows)

-- one that leaves the list
pub preview_leaves_list : (f : PreviewingRun) → ((st t session : List ℕ) (budget : ℕ) (list : List ℕ) → HandedRun st t session budget list → (f st t session budget list).list ≡ list) → KeepsRunPreview f → ⊥
preview_leaves_list f fault k =
    let e = k (store_after []) (players_after []) two_reads 9 three_places reads_handed in
    omega (arith, word 1 (fault (store_after []) (players_after []) two_reads 9 three_places reads_handed), ap (λ (p : RunPreview). get_or p.list 1 0) e, at 0 2 run_preview_rows)

-- one that is refused and writes the list, on any tables, with any session, budget and list
pub refused_preview_writes : (f : PreviewingRun) (st t session : List ℕ) (budget : ℕ) (list : List ℕ) → HandedRun st t session budget list
    → refuses_run (f st t session budget list).report.why ≡ true → ((f st t session budget list).list ≡ list → ⊥) → KeepsRunPreview f → ⊥
refused_preview_writes f st t session budget list h refused fault k =
    let same = k st t session budget list h in
    let r = sym (ap (λ (p : RunPreview). refuses_run p.report.why) same) ∙ refused in
    fault (ap (λ (p : RunPreview). p.list) same ∙ ap (λ (p : RunPreview). p.list) (run_preview_keeps st t session budget list r))

-- one that tries each record on the start tables, and not on what those before it leave
same_reads : let xs = steps two_reads 9 (whole_places three_places) in get_or xs 0 (Split 5) ≡ get_or xs 1 (Split 5)
unfolding fields_length record_length fields map_of step_of tested begins steps_from
same_reads = refl

pub preview_each_alone : (f : PreviewingRun)
    → ((st t session : List ℕ) (budget : ℕ) (list : List ℕ) (i : ℕ) → HandedRun st t session budget list → i < (f st t session budget list).report.records
    → reply_at (f st t session budget list).list i ≡ previewed (get_or (steps session budget (whole_places list)) i (Split 5)) st t)
    → KeepsRunPreview f → ⊥
preview_each_alone f fault k =
    let st = store_after [] in
    let t = players_after [] in
    let e = k st t two_reads 9 three_places reads_handed in
    let n = ap (λ (p : RunPreview). p.report.records) e in
    let one = fault st t two_reads 9 three_places 0 reads_handed (omega (arith, n, at 0 1 run_preview_rows)) in
    let two = fault st t two_reads 9 three_places 1 reads_handed (omega (arith, n, at 0 1 run_preview_rows)) in
    let same = one ∙ ap (λ (x : Step). previewed x st t) same_reads ∙ sym two in
    omega (
      arith,
      ap (λ (r : Reply). r.a) same,
      ap (λ (p : RunPreview). get_or p.list 1 0) e,
      ap (λ (p : RunPreview). get_or p.list 4 0) e,
      at 0 2 run_preview_rows,
      at 0 3 run_preview_rows,
    )
