-- "Demand 2 rejects": the wrong programs that document 01 names, and wrong readings of document 02, each against the whole promise of `steps::step` or of
-- `steps::running::run`. A program is here what it does to what is lent to it, whatever its code. Each theorem says what the fault is, and that no program with
-- it keeps the promise.
-- Assumes nothing.
use mathlib.Core.Path.{◌≡◌, ap, refl, sym, ◌∙◌}
use mathlib.Core.Bool.{Bool, true, false, cond, ◌&&◌}
use mathlib.Core.List.{List, [], ◌∷◌, ◌++◌, map}
use Prim.Native.Nat.{ℕ, zero, suc, ◌+◌, ◌-◌, ◌*◌, ◌/◌, ◌^◌, ◌<◌, ◌≤◌}
use native.Mathlib.Omega.{arith}
use lib.Dec.{T, ltb, eqb}
use lib.ListN.{length, get_or, drop}
use Rattle.store.specs.Model.{serials, open_guard, barred, unbroken, tablet_first, tablet_end, interval_first, interval_last}
use Rattle.store.specs.Table.{part as part_of, seek, guard_at, store_of, coded, laid, listed, table_of as store_table, at_most, guard_holds, rising, intervals, boundaries, valid as valid_store}
use Rattle.store.specs.declared.Reply.{Reply}
use Rattle.requests.specs.Model.{loader}
use Rattle.requests.specs.Region.{request_of, requests_from, requests_of, placed, fields_hold, outcome_holds, request_holds, words_fit, places_hold, valid as valid_requests}
use Rattle.counters.specs.Model.{counted as counted_read, counted_by}
use Rattle.counters.specs.Region.{counts_of, words_from, region_of as counter_region, all_sound, valid as valid_counters}
use Rattle.players.specs.declared.Step.{Step}
use Rattle.players.specs.declared.Step.TheVariants.{Assign, RequestGuard, Read, Deliver, Respond, Split, RestartTablet, FindInterval, Load}
use Rattle.players.specs.Rules.{State, step, fresh}
use Rattle.players.specs.Replies.{done}
use Rattle.players.specs.Regions.{region}
use Rattle.players.specs.Table.{cell, held_at, requests_at, state_of, table_of, cached_holds, cached_all, valid, valid_players}
use Rattle.players.specs.Calls.{Done, left as leaves, whole}
use Rattle.players.specs.Played.{taken, state_after}
use Rattle.players.specs.Cases.{range}
use Rattle.session.specs.Decoded.{Decoded, Record, Refused}
use Rattle.players.specs.Kinds.{stands, map_of, kind_and_fields, kind, step_of}
use Rattle.session.specs.Layout.{widths, fields_length, record_length, fields}
use Rattle.session.specs.Records.{tested, decode}
use Rattle.session.specs.Mark.{mark, begins, marked}
use Rattle.session.specs.Runs.{Run, stopped, took, on_record, run_from, allowed, steps_from, steps, longest, whole_places}
use Rattle.requests.proofs.Basics.{cond_elim}
use Rattle.players.proofs.IntervalLaws.{interval_taken}
use Rattle.session.proofs.Refusals.{Numbered, decode_numbered}
use Rattle.steps.specs.RunCalls.{Finished, ran, reply_at}

-- ---- what can be lent

-- words of 32 bits
abbrev pub Words : List ℕ → Type 0
Words t = T (at_most 4294967295 t)

-- the fields of a map, from bit 0 on, have their widths
abbrev fields_fit : List ℕ → ℕ → List ℕ → Bool
fields_fit [] m vs = true
fields_fit (w ∷ ws) m vs = cond (stands m) (ltb (get_or vs 0 0) (256 ^ w) && fields_fit ws (m / 2) (drop 1 vs)) (fields_fit ws (m / 2) vs)

-- each field of a step has its width
abbrev step_fits : Step → Bool
step_fits x = fields_fit widths (map_of (kind x)) (kind_and_fields x)

-- ---- a step

-- what a program does with a step and two tables
abbrev Program : Type 0
Program = Step → List ℕ → List ℕ → Done

-- what can be handed to it
abbrev pub Handed : Step → List ℕ → List ℕ → Type 0
Handed x st t = T (step_fits x) × Words st × Words t

-- it keeps the promise of `steps::step`
abbrev Keeps : Program → Type 0
Keeps f = (x : Step) (st t : List ℕ) → Handed x st t → f x st t ≡ taken x st t

-- which can be kept
pub step_promise : Keeps taken
step_promise x st t h = refl

-- tables that hold the state after some steps, from fresh tables on
abbrev pub store_after : List Step → List ℕ
store_after xs = store_table (state_after fresh xs).store

abbrev pub players_after : List Step → List ℕ
players_after xs = table_of (state_after fresh xs)

-- player 0 asks for a guard over 0 to 9
abbrev pub asked : List Step
asked = Assign 0 (range 0 9) ∷ RequestGuard 0 (range 0 9) ∷ []

-- it is granted, number 2; its read of entry 1 has arrived at the store
abbrev read_arrived : List Step
read_arrived = asked ++ (Deliver 2 ∷ Respond 2 ∷ Read 0 1 ∷ Deliver 3 ∷ [])

-- and is answered
abbrev pub read_answered : List Step
read_answered = read_arrived ++ (Respond 3 ∷ [])

-- ---- what is computed: the tables are words, and what the promise says of them

pub words : Words (store_after []) × Words (players_after []) × Words (store_after asked) × Words (players_after asked) × Words (store_after read_arrived) × Words (players_after read_arrived) × Words (store_after read_answered) × Words (players_after read_answered)
unfolding unbroken tablet_first tablet_end seek guard_at request_of requests_from requests_of fields_hold outcome_holds request_holds words_fit cell region at_most cached_holds cached_all placed places_hold valid_requests counts_of words_from counter_region all_sound valid_counters counted_read counted_by boundaries intervals rising guard_holds coded laid valid valid_players valid_store state_of store_of part_of store_table table_of listed state_after
words = (tt, tt, tt, tt, tt, tt, tt, tt)

pub fits : T (step_fits (Split 5)) × T (step_fits (Assign 0 (range 0 9))) × T (step_fits (Deliver 2)) × T (step_fits (Respond 3)) × T (step_fits (Read 0 1))
unfolding map_of
fits = (tt, tt, tt, tt, tt)

-- a reply's code, and words that tell what was set: the boundary before entry 5, the guard of the first interval, the last serial, and the guard under
-- which player 0 has entry 1 cached
abbrev seen : Done → List ℕ
seen d = d.reply.code ∷ get_or d.store 5 0 ∷ get_or d.store 512 0 ∷ get_or d.players 0 0 ∷ get_or d.players 2562 0 ∷ []

-- fresh tables as they are, split before entry 5, and with an assignment; the request as it is, and arrived; the read arrived, and answered; and read again
rows :
    map seen
    (leaves done (store_after []) (players_after [])
    ∷ taken (Split 5) (store_after []) (players_after [])
    ∷ taken (Assign 0 (range 0 9)) (store_after []) (players_after [])
    ∷ leaves done (store_after asked) (players_after asked)
    ∷ taken (Deliver 2) (store_after asked) (players_after asked)
    ∷ leaves done (store_after read_arrived) (players_after read_arrived)
    ∷ taken (Respond 3) (store_after read_arrived) (players_after read_arrived)
    ∷ taken (Read 0 1) (store_after read_answered) (players_after read_answered)
    ∷ [])
    ≡ (0 ∷ 0 ∷ 0 ∷ 0 ∷ 0 ∷ [])
    ∷ (0 ∷ 1 ∷ 0 ∷ 0 ∷ 0 ∷ [])
    ∷ (1 ∷ 0 ∷ 0 ∷ 1 ∷ 0 ∷ [])
    ∷ (0 ∷ 0 ∷ 0 ∷ 2 ∷ 0 ∷ [])
    ∷ (0 ∷ 0 ∷ 2 ∷ 2 ∷ 0 ∷ [])
    ∷ (0 ∷ 0 ∷ 2 ∷ 3 ∷ 0 ∷ [])
    ∷ (3 ∷ 0 ∷ 2 ∷ 3 ∷ 2 ∷ [])
    ∷ (2 ∷ 0 ∷ 2 ∷ 3 ∷ 2 ∷ [])
    ∷ []
unfolding unbroken tablet_first tablet_end seek guard_at request_of requests_from requests_of fields_hold outcome_holds request_holds words_fit cell region at_most cached_holds cached_all placed places_hold valid_requests counts_of words_from counter_region all_sound valid_counters counted_read counted_by boundaries intervals rising guard_holds coded laid valid valid_players valid_store state_of store_of part_of store_table table_of listed state_after
rows = refl

-- the j-th number of the i-th row, counted from 0
pub at : (i j : ℕ) {l m : List (List ℕ)} → l ≡ m → get_or (get_or l i []) j 0 ≡ get_or (get_or m i []) j 0
at i j e = ap (λ (l : List (List ℕ)). get_or (get_or l i []) j 0) e

-- a word of equal tables
pub word : (i : ℕ) {l m : List ℕ} → l ≡ m → get_or l i 0 ≡ get_or m i 0
word i e = ap (λ (l : List ℕ). get_or l i 0) e

-- ---- "a store that refuses each step": on fresh tables already, with whatever numbers, whatever it leaves

pub refuses_each_step : (f : Program) → ((x : Step) → Handed x (store_after []) (players_after []) → 21 ≤ (f x (store_after []) (players_after [])).reply.code) → Keeps f → ⊥
refuses_each_step f fault k =
    let e = ap (λ (d : Done). d.reply.code) (k (Split 5) (store_after []) (players_after []) (fits.0, words.0, words.1)) in
    omega (arith, fault (Split 5) (fits.0, words.0, words.1), e, at 1 0 rows)

-- ---- "one that replies 1 to all": on fresh tables already, whatever numbers go with it, whatever it leaves

pub replies_one_to_all : (f : Program) → ((x : Step) → Handed x (store_after []) (players_after []) → (f x (store_after []) (players_after [])).reply.code ≡ 1) → Keeps f → ⊥
replies_one_to_all f fault k =
    let e = ap (λ (d : Done). d.reply.code) (k (Split 5) (store_after []) (players_after []) (fits.0, words.0, words.1)) in
    omega (arith, fault (Split 5) (fits.0, words.0, words.1), e, at 1 0 rows)

-- ---- "one that replies rightly and sets nothing": it leaves one of the tables as it was, whatever it replies and whatever it does to the other

pub sets_nothing_in_store : (f : Program) → ((x : Step) → Handed x (store_after []) (players_after []) → (f x (store_after []) (players_after [])).store ≡ store_after []) → Keeps f → ⊥
sets_nothing_in_store f fault k =
    let e = ap (λ (d : Done). get_or d.store 5 0) (k (Split 5) (store_after []) (players_after []) (fits.0, words.0, words.1)) in
    omega (arith, word 5 (fault (Split 5) (fits.0, words.0, words.1)), e, at 1 1 rows, at 0 1 rows)

pub sets_nothing_in_players : (f : Program) → ((x : Step) → Handed x (store_after []) (players_after []) → (f x (store_after []) (players_after [])).players ≡ players_after []) → Keeps f → ⊥
sets_nothing_in_players f fault k =
    let x = Assign 0 (range 0 9) in
    let e = ap (λ (d : Done). get_or d.players 0 0) (k x (store_after []) (players_after []) (fits.1, words.0, words.1)) in
    omega (arith, word 0 (fault x (fits.1, words.0, words.1)), e, at 2 3 rows, at 0 3 rows)

-- nor at step 6 alone, where guards are set and writes commit
pub sets_no_guard : (f : Program) → ((n : ℕ) (st t : List ℕ) → Handed (Deliver n) st t → (f (Deliver n) st t).store ≡ st) → Keeps f → ⊥
sets_no_guard f fault k =
    let e = ap (λ (d : Done). get_or d.store 512 0) (k (Deliver 2) (store_after asked) (players_after asked) (fits.2, words.2, words.3)) in
    omega (arith, word 512 (fault 2 (store_after asked) (players_after asked) (fits.2, words.2, words.3)), e, at 4 2 rows, at 3 2 rows)

-- ---- "a player that never remembers": step 7 changes the guard of no cell but to 0, whatever it replies and whatever the other steps do

pub never_remembers : (f : Program)
    → ((n i : ℕ) (st t : List ℕ) → Handed (Respond n) st t → i < 2048 → (get_or (f (Respond n) st t).players (2561 + i) 0 ≡ get_or t (2561 + i) 0 → ⊥) → get_or (f (Respond n) st t).players (2561 + i) 0 ≡ 0)
    → Keeps f → ⊥
never_remembers f fault k =
    let st = store_after read_arrived in
    let t = players_after read_arrived in
    let e = ap (λ (d : Done). get_or d.players 2562 0) (k (Respond 3) st t (fits.3, words.4, words.5)) in
    let z = fault 3 1 st t (fits.3, words.4, words.5) (omega arith) (λ same. omega (arith, same, e, at 6 4 rows, at 5 4 rows)) in
    omega (arith, z, e, at 6 4 rows)

-- or no read is ever answered from memory
pub never_reads_from_memory : (f : Program) → ((p i : ℕ) (st t : List ℕ) → Handed (Read p i) st t → (f (Read p i) st t).reply.code ≡ 2 → ⊥) → Keeps f → ⊥
never_reads_from_memory f fault k =
    let st = store_after read_answered in
    let t = players_after read_answered in
    fault 0 1 st t (fits.4, words.6, words.7) (ap (λ (d : Done). d.reply.code) (k (Read 0 1) st t (fits.4, words.6, words.7)) ∙ at 7 0 rows)

-- ---- document 02 §1: wrong readings of how far a guard reaches

-- guard 2 is set over 0 to 9, and a boundary stands at entry 5
abbrev guard_split : List Step
guard_split = asked ++ (Deliver 2 ∷ Split 5 ∷ [])

split_words : Words (store_after guard_split) × Words (players_after guard_split)
unfolding unbroken tablet_first tablet_end seek guard_at request_of requests_from requests_of fields_hold outcome_holds request_holds words_fit cell region at_most cached_holds cached_all placed places_hold valid_requests counts_of words_from counter_region all_sound valid_counters counted_read counted_by boundaries intervals rising guard_holds coded laid valid valid_players valid_store state_of store_of part_of store_table table_of listed state_after
split_words = (tt, tt)

split_fits : T (step_fits (FindInterval 6)) × T (step_fits (FindInterval 10))
unfolding map_of
split_fits = (tt, tt)

-- a reply, and the last serial after it
abbrev reached : Done → List ℕ
reached d = d.reply.code ∷ d.reply.a ∷ d.reply.b ∷ get_or d.players 0 0 ∷ []

-- of entry 6, in the second tablet, and of entry 10, past the guard; then the last serial before and the boundary; then the guards of the entries 6 to 10
reach_rows :
    map reached (taken (FindInterval 6) (store_after guard_split) (players_after guard_split) ∷ taken (FindInterval 10) (store_after guard_split) (players_after guard_split) ∷ [])
    ++ ((get_or (players_after guard_split) 0 0 ∷ get_or (store_after guard_split) 5 0 ∷ []) ∷ map (store_of (store_after guard_split)).guard (6 ∷ 7 ∷ 8 ∷ 9 ∷ 10 ∷ []) ∷ [])
    ≡ (9 ∷ 0 ∷ 8 ∷ 2 ∷ []) ∷ (9 ∷ 9 ∷ 255 ∷ 2 ∷ []) ∷ (2 ∷ 1 ∷ []) ∷ (2 ∷ 2 ∷ 2 ∷ 0 ∷ 0 ∷ []) ∷ []
unfolding unbroken tablet_first tablet_end interval_first interval_last seek guard_at request_of requests_from requests_of fields_hold outcome_holds request_holds words_fit cell region at_most cached_holds cached_all placed places_hold valid_requests counts_of words_from counter_region all_sound valid_counters counted_read counted_by boundaries intervals rising guard_holds coded laid valid valid_players valid_store state_of store_of part_of store_table table_of listed state_after
reach_rows = refl

module _ (f : Program) (k : Keeps f) where
  abbrev st : List ℕ
  st = store_after guard_split

  abbrev t : List ℕ
  t = players_after guard_split

  abbrev guard : ℕ → ℕ
  guard = (store_of st).guard

  inside : f (FindInterval 6) st t ≡ taken (FindInterval 6) st t
  inside = k (FindInterval 6) st t (split_fits.0, split_words.0, split_words.1)

  behind : f (FindInterval 10) st t ≡ taken (FindInterval 10) st t
  behind = k (FindInterval 10) st t (split_fits.1, split_words.0, split_words.1)

  -- an interval cut at the boundaries: none stands after its first entry, up to its last
  pub interval_cut : ((e i : ℕ) (st t : List ℕ) → Handed (FindInterval e) st t → (f (FindInterval e) st t).reply.a < i → i ≤ (f (FindInterval e) st t).reply.b → get_or st i 0 ≡ 1 → ⊥) → ⊥
  interval_cut fault =
      let a = ap (λ (d : Done). d.reply.a) inside ∙ at 0 1 reach_rows in
      let b = ap (λ (d : Done). d.reply.b) inside ∙ at 0 2 reach_rows in
      fault 6 5 st t (split_fits.0, split_words.0, split_words.1) (omega arith) (omega arith) (at 2 1 reach_rows)

  -- one too short at its first end: where the entry before has the same guard, the entry before the first that is given has it too
  pub interval_begins_late :
      ((e : ℕ) (st t : List ℕ) → Handed (FindInterval e) st t → (f (FindInterval e) st t).reply.code ≡ 9 → (store_of st).guard (e - 1) ≡ (store_of st).guard e
      → (store_of st).guard ((f (FindInterval e) st t).reply.a - 1) ≡ (store_of st).guard e) → ⊥
  interval_begins_late fault =
      let a = ap (λ (d : Done). d.reply.a) behind ∙ at 1 1 reach_rows in
      let i : (f (FindInterval 10) st t).reply.a - 1 ≡ 8 = omega arith in
      let nine = ap (λ (d : Done). d.reply.code) behind ∙ at 1 0 reach_rows in
      let same = ap guard (sym i) ∙ fault 10 st t (split_fits.1, split_words.0, split_words.1) nine (at 3 3 reach_rows ∙ sym (at 3 4 reach_rows)) in
      omega (arith, same, at 3 2 reach_rows, at 3 4 reach_rows)

  -- one too short at its last end: where the entry after has the same guard, the entry after the last that is given has it too
  pub interval_ends_early :
      ((e : ℕ) (st t : List ℕ) → Handed (FindInterval e) st t → (f (FindInterval e) st t).reply.code ≡ 9 → (store_of st).guard (e + 1) ≡ (store_of st).guard e
      → (store_of st).guard ((f (FindInterval e) st t).reply.b + 1) ≡ (store_of st).guard e) → ⊥
  interval_ends_early fault =
      let b = ap (λ (d : Done). d.reply.b) inside ∙ at 0 2 reach_rows in
      let i : (f (FindInterval 6) st t).reply.b + 1 ≡ 9 = omega arith in
      let nine = ap (λ (d : Done). d.reply.code) inside ∙ at 0 0 reach_rows in
      let same = ap guard (sym i) ∙ fault 6 st t (split_fits.0, split_words.0, split_words.1) nine (at 3 1 reach_rows ∙ sym (at 3 0 reach_rows)) in
      omega (arith, same, at 3 0 reach_rows, at 3 3 reach_rows)

  -- a step 14 that takes a serial where one is left
  pub interval_takes_serial :
      ((e : ℕ) (st t : List ℕ) → Handed (FindInterval e) st t → (f (FindInterval e) st t).reply.code ≡ 9 → get_or t 0 0 < serials → get_or (f (FindInterval e) st t).players 0 0 ≡ get_or t 0 0 + 1) → ⊥
  interval_takes_serial fault =
      let e = ap (λ (d : Done). get_or d.players 0 0) inside ∙ at 0 3 reach_rows in
      let nine = ap (λ (d : Done). d.reply.code) inside ∙ at 0 0 reach_rows in
      let last = at 2 0 reach_rows in
      omega (arith, e, fault 6 st t (split_fits.0, split_words.0, split_words.1) nine (omega (arith, last)), last)

  -- or that alters any word of a table, on whatever words
  pub interval_alters : (e : ℕ) (st t : List ℕ) → Handed (FindInterval e) st t → (((f (FindInterval e) st t).store ≡ st) × ((f (FindInterval e) st t).players ≡ t) → ⊥) → ⊥
  interval_alters e st t h alters =
      let same = k (FindInterval e) st t h ∙ interval_taken st t e in
      alters (ap (λ (d : Done). d.store) same, ap (λ (d : Done). d.players) same)

-- ---- document 02 §2: wrong readings of loads and restarts

-- guard 2 is granted to player 0 over 0 to 9; its read 3 of entry 1 waits, and load 4 of that entry
abbrev load_waits : List Step
load_waits = asked ++ (Deliver 2 ∷ Respond 2 ∷ Read 0 1 ∷ Load 1 6 ∷ [])

-- the load has arrived at the store, and is turned back
abbrev load_arrived : List Step
load_arrived = load_waits ++ (Deliver 4 ∷ [])

load_words : Words (store_after load_waits) × Words (players_after load_waits) × Words (store_after load_arrived) × Words (players_after load_arrived)
unfolding unbroken tablet_first tablet_end seek guard_at request_of requests_from requests_of fields_hold outcome_holds request_holds words_fit cell region at_most cached_holds cached_all placed places_hold valid_requests counts_of words_from counter_region all_sound valid_counters counted_read counted_by boundaries intervals rising guard_holds coded laid valid valid_players valid_store state_of store_of part_of store_table table_of listed state_after
load_words = (tt, tt, tt, tt)

load_fits : T (step_fits (Load 1 7)) × T (step_fits (Respond 4)) × T (step_fits (RestartTablet 1))
unfolding map_of
load_fits = (tt, tt, tt)

-- the j-th word of the request in place i
abbrev request_word : List ℕ → ℕ → ℕ → ℕ
request_word t i j = get_or t (requests_at + (i * 12 + j)) 0

-- the guard that player p has for entry e
abbrev held_word : List ℕ → ℕ → ℕ → ℕ
held_word t p e = get_or t (held_at + (p * 256 + e)) 0

-- a reply's code and first number; the mark of the first request; serial, mark, player, kind and carried guard of the third; player 0's guard for
-- entry 1, and the store's
abbrev load_seen : Done → List ℕ
load_seen d =
    d.reply.code ∷ d.reply.a ∷ request_word d.players 0 7 ∷ held_word d.players 0 1 ∷ (store_of d.store).guard 1 ∷ map (request_word d.players 2) (0 ∷ 7 ∷ 1 ∷ 2 ∷ 6 ∷ [])

-- another load, the answer to load 4, a restart; then kind, entry and whether it is given up of read 3; serial, player, kind, entry and whether it is
-- given up of load 4; the store's guard of entry 1 before
load_rows :
    map load_seen
    (taken (Load 1 7) (store_after load_waits) (players_after load_waits)
    ∷ taken (Respond 4) (store_after load_arrived) (players_after load_arrived)
    ∷ taken (RestartTablet 1) (store_after load_waits) (players_after load_waits)
    ∷ [])
    ++ (map (request_word (players_after load_waits) 0) (2 ∷ 3 ∷ 9 ∷ []) ∷ map (request_word (players_after load_waits) 1) (0 ∷ 1 ∷ 2 ∷ 3 ∷ 9 ∷ [])
    ∷ map (request_word (players_after load_arrived) 1) (0 ∷ 1 ∷ 3 ∷ []) ∷ ((store_of (store_after load_waits)).guard 1 ∷ []) ∷ [])
    ≡ (1 ∷ 5 ∷ 0 ∷ 2 ∷ 2 ∷ 5 ∷ 0 ∷ 8 ∷ 5 ∷ 0 ∷ []) ∷ (5 ∷ 4 ∷ 0 ∷ 2 ∷ 2 ∷ 0 ∷ 0 ∷ 0 ∷ 0 ∷ 0 ∷ []) ∷ (0 ∷ 0 ∷ 0 ∷ 2 ∷ barred ∷ 0 ∷ 0 ∷ 0 ∷ 0 ∷ 0 ∷ []) ∷ (4 ∷ 1 ∷ 0 ∷ []) ∷ (4 ∷ 8 ∷ 5 ∷ 1 ∷ 0 ∷ [])
    ∷ (4 ∷ 8 ∷ 1 ∷ []) ∷ (2 ∷ []) ∷ []
unfolding unbroken tablet_first tablet_end seek guard_at request_of requests_from requests_of fields_hold outcome_holds request_holds words_fit cell region at_most cached_holds cached_all placed places_hold valid_requests counts_of words_from counter_region all_sound valid_counters counted_read counted_by boundaries intervals rising guard_holds coded laid valid valid_players valid_store state_of store_of part_of store_table table_of listed state_after
load_rows = refl

module _ (f : Program) (k : Keeps f) where
  abbrev waits_store : List ℕ
  waits_store = store_after load_waits

  abbrev waits_players : List ℕ
  waits_players = players_after load_waits

  waits_handed : Handed (Load 1 7) waits_store waits_players
  waits_handed = (load_fits.0, load_words.0, load_words.1)

  loaded : f (Load 1 7) waits_store waits_players ≡ taken (Load 1 7) waits_store waits_players
  loaded = k (Load 1 7) waits_store waits_players waits_handed

  -- the load is taken
  one : (f (Load 1 7) waits_store waits_players).reply.code ≡ 1
  one = ap (λ (d : Done). d.reply.code) loaded ∙ at 0 0 load_rows

  -- its request is the third
  own : request_word (f (Load 1 7) waits_store waits_players).players 2 0 ≡ (f (Load 1 7) waits_store waits_players).reply.a
  own = (ap (λ (d : Done). request_word d.players 2 0) loaded ∙ at 0 5 load_rows) ∙ sym (ap (λ (d : Done). d.reply.a) loaded ∙ at 0 1 load_rows)

  -- a load that marks the waiting reads on its entry
  pub load_marks :
      ((e v i : ℕ) (st t : List ℕ) → Handed (Load e v) st t → (f (Load e v) st t).reply.code ≡ 1 → request_word t i 2 ≡ 4 → request_word t i 3 ≡ e → request_word t i 9 ≡ 0
      → request_word (f (Load e v) st t).players i 7 ≡ 1) → ⊥
  load_marks fault =
      let marked = fault 1 7 0 waits_store waits_players waits_handed one (at 3 0 load_rows) (at 3 1 load_rows) (at 3 2 load_rows) in
      omega (arith, marked, ap (λ (d : Done). request_word d.players 0 7) loaded, at 0 2 load_rows)

  -- one that is overlapped where another load, or a write, waits on its entry
  pub load_overlapped :
      ((e v i j : ℕ) (st t : List ℕ) → Handed (Load e v) st t → (f (Load e v) st t).reply.code ≡ 1 → request_word t i 2 ≡ 5 → request_word t i 3 ≡ e → request_word t i 9 ≡ 0
      → request_word (f (Load e v) st t).players j 0 ≡ (f (Load e v) st t).reply.a → request_word (f (Load e v) st t).players j 7 ≡ 1) → ⊥
  load_overlapped fault =
      let marked = fault 1 7 1 2 waits_store waits_players waits_handed one (at 4 2 load_rows) (at 4 3 load_rows) (at 4 4 load_rows) own in
      omega (arith, marked, ap (λ (d : Done). request_word d.players 2 7) loaded, at 0 6 load_rows)

  -- one whose request is a player's
  pub load_by_player :
      ((e v j : ℕ) (st t : List ℕ) → Handed (Load e v) st t → (f (Load e v) st t).reply.code ≡ 1 → request_word (f (Load e v) st t).players j 0 ≡ (f (Load e v) st t).reply.a
      → request_word (f (Load e v) st t).players j 1 < loader) → ⊥
  load_by_player fault =
      let player = fault 1 7 2 waits_store waits_players waits_handed one own in
      omega (arith, player, ap (λ (d : Done). request_word d.players 2 1) loaded, at 0 7 load_rows)

  -- one whose request has the number of its step for its kind
  pub load_by_step_kind :
      ((e v j : ℕ) (st t : List ℕ) → Handed (Load e v) st t → (f (Load e v) st t).reply.code ≡ 1 → request_word (f (Load e v) st t).players j 0 ≡ (f (Load e v) st t).reply.a
      → request_word (f (Load e v) st t).players j 2 ≡ 15) → ⊥
  load_by_step_kind fault =
      let fifteen = fault 1 7 2 waits_store waits_players waits_handed one own in
      omega (arith, fifteen, ap (λ (d : Done). request_word d.players 2 2) loaded, at 0 8 load_rows)

  -- one that carries the guard which the store has for its entry
  pub load_carries_guard :
      ((e v j : ℕ) (st t : List ℕ) → Handed (Load e v) st t → (f (Load e v) st t).reply.code ≡ 1 → request_word (f (Load e v) st t).players j 0 ≡ (f (Load e v) st t).reply.a
      → request_word (f (Load e v) st t).players j 6 ≡ (store_of st).guard e) → ⊥
  load_carries_guard fault =
      let carried = fault 1 7 2 waits_store waits_players waits_handed one own in
      omega (arith, carried, ap (λ (d : Done). request_word d.players 2 6) loaded, at 0 9 load_rows, at 6 0 load_rows)

  -- an answer 5 to a load that clears the guard which a player has for its entry
  pub load_clears :
      ((n i p e : ℕ) (st t : List ℕ) → Handed (Respond n) st t → (f (Respond n) st t).reply.code ≡ 5 → request_word t i 0 ≡ n → request_word t i 1 ≡ loader → request_word t i 3 ≡ e → p < 8
      → held_word (f (Respond n) st t).players p e ≡ 0) → ⊥
  load_clears fault =
      let st = store_after load_arrived in
      let t = players_after load_arrived in
      let h : Handed (Respond 4) st t = (load_fits.1, load_words.2, load_words.3) in
      let answered = k (Respond 4) st t h in
      let five = ap (λ (d : Done). d.reply.code) answered ∙ at 1 0 load_rows in
      let cleared = fault 4 1 0 1 st t h five (at 5 0 load_rows) (at 5 1 load_rows) (at 5 2 load_rows) (omega arith) in
      omega (arith, cleared, ap (λ (d : Done). held_word d.players 0 1) answered, at 1 3 load_rows)

  -- a tablet restart that leaves its entry open
  pub restart_opens : ((e : ℕ) (st t : List ℕ) → Handed (RestartTablet e) st t → (f (RestartTablet e) st t).reply.code ≡ 0 → (store_of (f (RestartTablet e) st t).store).guard e ≡ open_guard) → ⊥
  restart_opens fault =
      let h : Handed (RestartTablet 1) waits_store waits_players = (load_fits.2, load_words.0, load_words.1) in
      let restarted = k (RestartTablet 1) waits_store waits_players h in
      let opened = fault 1 waits_store waits_players h (ap (λ (d : Done). d.reply.code) restarted ∙ at 2 0 load_rows) in
      omega (arith, opened, ap (λ (d : Done). (store_of d.store).guard 1) restarted, at 2 4 load_rows)

-- ---- a run

-- what a program does with two tables, a session, a budget and a list for replies
abbrev Running : Type 0
Running = List ℕ → List ℕ → List ℕ → ℕ → List ℕ → Finished

-- what can be handed to it
abbrev pub HandedRun : List ℕ → List ℕ → List ℕ → ℕ → List ℕ → Type 0
HandedRun st t session budget list = Words st × Words t × T (at_most 255 session) × (budget ≤ 4294967295) × Words list

-- it keeps the promise of `steps::running::run`
abbrev KeepsRun : Running → Type 0
KeepsRun f = (st t session : List ℕ) (budget : ℕ) (list : List ℕ) → HandedRun st t session budget list → f st t session budget list ≡ ran st t session budget list

-- which can be kept
pub run_promise : KeepsRun ran
run_promise s t session budget list h = refl

-- two reads of entry 9, and one write to it, in as many bytes
abbrev pub two_reads : List ℕ
two_reads = mark ++ (0x07 ∷ 0x04 ∷ 0x00 ∷ 0x09 ∷ 0x07 ∷ 0x04 ∷ 0x00 ∷ 0x09 ∷ [])

abbrev one_write : List ℕ
one_write = mark ++ (0x17 ∷ 0x05 ∷ 0x00 ∷ 0x09 ∷ 0x07 ∷ 0x00 ∷ 0x00 ∷ 0x00 ∷ [])

-- a list of three places
abbrev pub three_places : List ℕ
three_places = 0 ∷ 0 ∷ 0 ∷ 0 ∷ 0 ∷ 0 ∷ 0 ∷ 0 ∷ 0 ∷ []

-- how many records a run took; of its list, the second numbers of the first two replies; the last serial
abbrev run_seen : Finished → List ℕ
run_seen d = d.report.records ∷ get_or d.list 1 0 ∷ get_or d.list 4 0 ∷ get_or d.players 0 0 ∷ []

-- from fresh tables: the two reads, the first of them alone, the write
run_rows :
    map run_seen
    (ran (store_after []) (players_after []) two_reads 9 three_places
    ∷ ran (store_after []) (players_after []) two_reads 1 three_places
    ∷ ran (store_after []) (players_after []) one_write 9 three_places
    ∷ [])
    ≡ (2 ∷ 1 ∷ 2 ∷ 2 ∷ [])
    ∷ (1 ∷ 1 ∷ 0 ∷ 1 ∷ [])
    ∷ (1 ∷ 0 ∷ 0 ∷ 0 ∷ [])
    ∷ []
unfolding fields_length record_length fields map_of step_of tested begins run_from unbroken tablet_first tablet_end seek guard_at request_of requests_from requests_of fields_hold outcome_holds request_holds words_fit cell region at_most cached_holds cached_all placed places_hold valid_requests counts_of words_from counter_region all_sound valid_counters counted_read counted_by boundaries intervals rising guard_holds coded laid valid valid_players valid_store state_of store_of part_of store_table table_of listed state_after
run_rows = refl

pub reads_handed : HandedRun (store_after []) (players_after []) two_reads 9 three_places
unfolding at_most
reads_handed = (words.0, words.1, tt, omega arith, tt)

write_handed : HandedRun (store_after []) (players_after []) one_write 9 three_places
unfolding at_most
write_handed = (words.0, words.1, tt, omega arith, tt)

-- ---- "a run that takes the first record and echoes its reply": each reply put into the list is the first one, whatever the tables and the report;
-- or the players' table is left as by the first record alone, whatever the list and the report

pub echoes_first_reply : (f : Running)
    → ((st t session : List ℕ) (budget : ℕ) (list : List ℕ) (i : ℕ) → HandedRun st t session budget list → i < (f st t session budget list).report.records → reply_at (f st t session budget list).list i ≡ reply_at (f st t session budget list).list 0)
    → KeepsRun f → ⊥
echoes_first_reply f fault k =
    let e = k (store_after []) (players_after []) two_reads 9 three_places reads_handed in
    let n = ap (λ (d : Finished). d.report.records) e in
    let same = fault (store_after []) (players_after []) two_reads 9 three_places 1 reads_handed (omega (arith, n, at 0 0 run_rows)) in
    omega (arith, ap (λ (r : Reply). r.a) same, ap (λ (d : Finished). get_or d.list 1 0) e, ap (λ (d : Finished). get_or d.list 4 0) e, at 0 1 run_rows, at 0 2 run_rows)

pub takes_first_record : (f : Running)
    → ((st t session : List ℕ) (budget : ℕ) (list : List ℕ) → HandedRun st t session budget list → 1 ≤ budget → (f st t session budget list).players ≡ (ran st t session 1 list).players)
    → KeepsRun f → ⊥
takes_first_record f fault k =
    let e = k (store_after []) (players_after []) two_reads 9 three_places reads_handed in
    let same = fault (store_after []) (players_after []) two_reads 9 three_places reads_handed (omega arith) in
    omega (arith, word 0 same, ap (λ (d : Finished). get_or d.players 0 0) e, at 1 3 run_rows, at 0 3 run_rows)

-- ---- "a run with an invented record count": a count that is made without the session's bytes, from all else and their number, is rejected, whatever it is

pub invents_count : (f : Running) (count : List ℕ → List ℕ → ℕ → ℕ → List ℕ → ℕ)
    → ((st t session : List ℕ) (budget : ℕ) (list : List ℕ) → HandedRun st t session budget list → (f st t session budget list).report.records ≡ count st t (length session) budget list)
    → KeepsRun f → ⊥
invents_count f count fault k =
    let two = k (store_after []) (players_after []) two_reads 9 three_places reads_handed in
    let one = k (store_after []) (players_after []) one_write 9 three_places write_handed in
    let a = fault (store_after []) (players_after []) two_reads 9 three_places reads_handed in
    let b = fault (store_after []) (players_after []) one_write 9 three_places write_handed in
    omega (arith, a, b, ap (λ (d : Finished). d.report.records) two, ap (λ (d : Finished). d.report.records) one, at 0 0 run_rows, at 2 0 run_rows)

-- and any count but the number of steps that the session holds for this budget and list, on any tables that keep the rules
counted_next : (left place : ℕ) (s : State) (part : List ℕ) (d : Decoded)
    → ((s' : State) (place' : ℕ) (part' : List ℕ) → (run_from left s' place' part').report.records ≡ length (steps_from left part'))
    → (on_record d (λ x n. took (step s x).reply (run_from left (step s x).state (place + n) (drop n part))) (λ n. stopped n place s)).report.records
    ≡ length (on_record d (λ x n. x ∷ steps_from left (drop n part)) (λ n. []))
counted_next left place s part (Record x n) h = ap suc (h (step s x).state (place + n) (drop n part))
counted_next left place s part (Refused n) h = refl

no_record : (part : List ℕ) → eqb (length part) 0 ≡ true → decode part ≡ Refused 24
unfolding tested
no_record part e = rw e

counted_from : (left : ℕ) (s : State) (place : ℕ) (part : List ℕ) → (run_from left s place part).report.records ≡ length (steps_from left part)
unfolding run_from steps_from
counted_from zero s place part = refl
counted_from (suc left) s place part = pick (counted_from left) (eqb (length part) 0) refl
  where
    pick : ((s' : State) (place' : ℕ) (part' : List ℕ) → (run_from left s' place' part').report.records ≡ length (steps_from left part'))
        → (b : Bool) → eqb (length part) 0 ≡ b → (run_from (suc left) s place part).report.records ≡ length (steps_from (suc left) part)
    pick h true e = rw (e, no_record part e)
    pick h false e = rw e (counted_next left place s part (decode part) h)

-- of two that the same test chooses
alike : {A B : Type 0} (P : A → B → Type 0) (b : Bool) (x y : A) (u v : B) → P x u → P y v → P (cond b x y) (cond b u v)
alike P true x y u v p q = p
alike P false x y u v p q = q

counted : (st t session : List ℕ) (budget : ℕ) (list : List ℕ) → whole st t ≡ true → valid st t ≡ true
    → (ran st t session budget list).report.records ≡ length (steps session budget (whole_places list))
counted st t session budget list w v =
    let P : Finished → List Step → Type 0 = λ d xs. d.report.records ≡ length xs in
    rw (w, v)
    (alike P (ltb longest (length session)) _ _ _ _ refl
    (alike P (marked session) _ _ _ _ (counted_from (allowed budget (whole_places list)) (state_of st t) 4 (drop 4 session)) refl))

pub miscounts : (f : Running) (st t session : List ℕ) (budget : ℕ) (list : List ℕ) → HandedRun st t session budget list
    → whole st t ≡ true → valid st t ≡ true → ((f st t session budget list).report.records ≡ length (steps session budget (whole_places list)) → ⊥) → KeepsRun f → ⊥
miscounts f st t session budget list h w v fault k =
    fault (ap (λ (r : Finished). r.report.records) (k st t session budget list h) ∙ counted st t session budget list w v)

-- ---- "one reporting 9 with budget and list left": on any tables, with any session, budget and list, 9 is reported with fewer records taken than the budget
-- and the list's whole places allow

abbrev Spent : ℕ → Run → Type 0
Spent left r = r.report.why ≡ 9 → r.report.records ≡ left

spent_next : (left place : ℕ) (s : State) (part : List ℕ) (d : Decoded) → Numbered d
    → ((s' : State) (place' : ℕ) (part' : List ℕ) → Spent left (run_from left s' place' part'))
    → Spent (suc left) (on_record d (λ x n. took (step s x).reply (run_from left (step s x).state (place + n) (drop n part))) (λ n. stopped n place s))
spent_next left place s part (Record x n) e h w = ap suc (h (step s x).state (place + n) (drop n part) w)
spent_next left place s part (Refused n) e h w = absurd (omega (arith, e.0, w))

spent_from : (left : ℕ) (s : State) (place : ℕ) (part : List ℕ) → Spent left (run_from left s place part)
unfolding run_from
spent_from zero s place part = λ w. refl
spent_from (suc left) s place part =
    cond_elim (Spent (suc left)) (eqb (length part) 0) (stopped 0 place s) _ (λ _ w. omega (arith, w)) (λ _. spent_next left place s part (decode part) (decode_numbered part) (spent_from left))

pub spent_ran : (st t session : List ℕ) (budget : ℕ) (list : List ℕ) → (ran st t session budget list).report.why ≡ 9
    → (ran st t session budget list).report.records ≡ allowed budget (whole_places list)
spent_ran st t session budget list =
    let n = allowed budget (whole_places list) in
    let P : Finished → Type 0 = λ d. d.report.why ≡ 9 → d.report.records ≡ n in
    cond_elim P (whole st t) _ _ (λ _.
    cond_elim P (valid st t) _ _ (λ _.
    cond_elim P (ltb longest (length session)) _ _ (λ _ w. omega (arith, w)) (λ _.
    cond_elim P (marked session) _ _ (λ _. spent_from n (state_of st t) 4 (drop 4 session)) (λ _ w. omega (arith, w)))) (λ _ w. omega (arith, w))) (λ _ w. omega (arith, w))

pub reports_nine : (f : Running) (st t session : List ℕ) (budget : ℕ) (list : List ℕ) → HandedRun st t session budget list
    → (f st t session budget list).report.why ≡ 9 → (f st t session budget list).report.records < allowed budget (whole_places list) → KeepsRun f → ⊥
reports_nine f st t session budget list h nine few k =
    let same = k st t session budget list h in
    let w = sym (ap (λ (r : Finished). r.report.why) same) ∙ nine in
    omega (arith, few, ap (λ (r : Finished). r.report.records) same, spent_ran st t session budget list w)
