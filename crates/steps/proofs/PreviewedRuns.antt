-- A preview of a run beside the run with the whole budget: it takes at most 16 records; the run begins with its replies, and is what the preview
-- gave where that did not stop with 9.
-- Assumes nothing.
use mathlib.Core.Path.{◌≡◌, ◌∙◌, refl, sym, ap}
use mathlib.Core.Bool.{Bool, true, false, cond}
use mathlib.Core.List.{List, [], ◌∷◌}
use Prim.Native.Nat.{ℕ, zero, suc, ◌+◌, ◌≤◌}
use native.Mathlib.Omega.{arith}
use lib.Dec.{eqb, leb, ltb}
use lib.ListN.{length, take, drop}
use borrow.Author.Tests.{ltb-true, ltb-false}
use Rattle.store.specs.declared.Reply.{Reply}
use Rattle.players.specs.Rules.{State, step}
use Rattle.players.specs.Table.{state_of, valid}
use Rattle.players.specs.Calls.{whole}
use Rattle.session.specs.Decoded.{Decoded, Record, Refused}
use Rattle.session.specs.Records.{decode}
use Rattle.session.specs.Mark.{mark, marked}
use Rattle.session.specs.Runs.{report, Run, at_end, spent, stopped, took, on_record, run_from, allowed, run, longest, too_long, no_mark, preview_records, preview_budget, whole_places, filled}
use Rattle.steps.specs.RunCalls.{Finished, finished, encoded, ran, replies_from}
use Rattle.steps.specs.Previews.{RunPreview, run_preview, previewed_run}
use Rattle.steps.proofs.LoopLaws.{replies_filled}
use Rattle.steps.proofs.RanLaws.{allowed_few, ran-run}
use Rattle.steps.proofs.FreshRuns.{counted_from}
use Rattle.steps.proofs.AfterPreviews.{run_preview_follows}

-- a run that may take one record, and `left` more, by what stands at the place
abbrev by_record : ℕ → State → ℕ → List ℕ → Decoded → Run
by_record left s place part d = on_record d (λ x k. took (step s x).reply (run_from left (step s x).state (place + k) (drop k part))) (λ k. stopped k place s)

-- ---- the replies

begins_next : (n m : ℕ) (s : State) (place : ℕ) (part : List ℕ) (d : Decoded)
    → ((s' : State) (place' : ℕ) (part' : List ℕ) → (run_from n s' place' part').replies ≡ take n (run_from m s' place' part').replies)
    → (by_record n s place part d).replies ≡ take (suc n) (by_record m s place part d).replies
begins_next n m s place part (Record x k) h = ap (λ (l : List Reply). (step s x).reply ∷ l) (h (step s x).state (place + k) (drop k part))
begins_next n m s place part (Refused k) h = refl

begins : (n m : ℕ) → n ≤ m → (s : State) (place : ℕ) (part : List ℕ) → (run_from n s place part).replies ≡ take n (run_from m s place part).replies
unfolding run_from
begins zero m h s place part = refl
begins (suc n) zero h s place part = absurd (omega arith)
begins (suc n) (suc m) h s place part = by (eqb (length part) 0) (begins_next n m s place part (decode part) (begins n m (omega arith)))
  where
    more : ℕ → Run
    more k = by_record k s place part (decode part)

    by : (b : Bool) → (more n).replies ≡ take (suc n) (more m).replies → (cond b (stopped at_end place s) (more n)).replies ≡ take (suc n) (cond b (stopped at_end place s) (more m)).replies
    by true g = refl
    by false g = g

-- ---- all of it, where it does not stop with 9

ends_next : (n m : ℕ) (s : State) (place : ℕ) (part : List ℕ) (d : Decoded)
    → ((s' : State) (place' : ℕ) (part' : List ℕ) → ((run_from n s' place' part').report.why ≡ spent → ⊥) → run_from m s' place' part' ≡ run_from n s' place' part')
    → ((by_record n s place part d).report.why ≡ spent → ⊥) → by_record m s place part d ≡ by_record n s place part d
ends_next n m s place part (Record x k) h g = ap (took (step s x).reply) (h (step s x).state (place + k) (drop k part) g)
ends_next n m s place part (Refused k) h g = refl

ends : (n m : ℕ) → n ≤ m → (s : State) (place : ℕ) (part : List ℕ) → ((run_from n s place part).report.why ≡ spent → ⊥) → run_from m s place part ≡ run_from n s place part
unfolding run_from
ends zero zero h s place part g = refl
ends zero (suc m) h s place part g = by (eqb (length part) 0) g
  where
    by : (b : Bool) → (cond b at_end spent ≡ spent → ⊥) → cond b (stopped at_end place s) (by_record m s place part (decode part)) ≡ stopped (cond b at_end spent) place s
    by true g = refl
    by false g = absurd (g refl)
ends (suc n) zero h s place part g = absurd (omega arith)
ends (suc n) (suc m) h s place part g = by (eqb (length part) 0) (ends_next n m s place part (decode part) (ends n m (omega arith))) g
  where
    more : ℕ → Run
    more k = by_record k s place part (decode part)

    by : (b : Bool) → (((more n).report.why ≡ spent → ⊥) → more m ≡ more n) → ((cond b (stopped at_end place s) (more n)).report.why ≡ spent → ⊥)
        → cond b (stopped at_end place s) (more m) ≡ cond b (stopped at_end place s) (more n)
    by true f g = refl
    by false f g = f g

-- ---- of the calls: a preview, and the run with the whole budget, into the same list

take_taken : (n : ℕ) (l : List Reply) → take (length (take n l)) l ≡ take n l
take_taken zero l = refl
take_taken (suc n) [] = refl
take_taken (suc n) (r ∷ l) = ap (λ (m : List Reply). r ∷ m) (take_taken n l)

preview_few : (budget : ℕ) → (preview_budget budget ≤ budget) × (preview_budget budget ≤ preview_records)
preview_few budget = by (ltb preview_records budget) refl
  where
    by : (b : Bool) → ltb preview_records budget ≡ b → (cond b preview_records budget ≤ budget) × (cond b preview_records budget ≤ preview_records)
    by true e = let h = ltb-true preview_records budget e in (omega arith, omega arith)
    by false e = (omega arith, ltb-false preview_records budget e)

allowed_more : (n m places : ℕ) → n ≤ m → allowed n places ≤ allowed m places
allowed_more n m places h = by (leb m places)
  where
    by : (b : Bool) → allowed n places ≤ cond b m places
    by true = omega (arith, (allowed_few n places).0)
    by false = (allowed_few n places).1

none_from : (list : List ℕ) → replies_from list 0 0 ≡ []
unfolding replies_from
none_from list = refl

module _ (st t session : List ℕ) (budget : ℕ) (list : List ℕ) where
  -- the records of the session
  abbrev records : List ℕ
  records = drop (length mark) session

  -- what a run that may take n of them gives
  abbrev taking : ℕ → Run
  taking n = run_from n (state_of st t) (length mark) records

  abbrev given : ℕ → RunPreview
  given n = run_preview (taking n).report (filled list (taking n).replies)

  abbrev whole_run : RunPreview
  whole_run = let d = ran st t session budget list in run_preview d.report d.list

  -- both are refused alike, or the preview may take no more records than the run, and than 16
  by_tests : (P : RunPreview → RunPreview → Type 0) → ((n : ℕ) → P (run_preview (report n 0 0) list) (run_preview (report n 0 0) list)) → ((n m : ℕ) → n ≤ m → n ≤ preview_records → P (given n) (given m))
      → P (previewed_run st t session budget list) whole_run
  by_tests P refused taken = by (whole st t) (valid st t) (ltb longest (length session)) (marked session)
    where
      n : ℕ
      n = allowed (preview_budget budget) (whole_places list)

      m : ℕ
      m = allowed budget (whole_places list)

      told : Finished → RunPreview
      told d = run_preview d.report d.list

      call : Bool → Bool → Bool → Bool → ℕ → Finished
      call w v a k left =
          let stop : ℕ → Finished = λ i. finished (report i 0 0) list st t in
          cond w (cond v (cond a (stop too_long) (cond k (encoded list (taking left)) (stop no_mark))) (stop 22)) (stop 21)

      by : (w v a k : Bool) → P (told (call w v a k n)) (told (call w v a k m))
      by true true true k = refused too_long
      by true true false true =
          let few = preview_few budget in
          taken n m (allowed_more (preview_budget budget) budget (whole_places list) few.0) (omega (arith, (allowed_few (preview_budget budget) (whole_places list)).0, few.1))
      by true true false false = refused no_mark
      by true false a k = refused 22
      by false v a k = refused 21

  -- no preview takes more than 16 records
  pub preview_takes_few : (previewed_run st t session budget list).report.records ≤ preview_records
  preview_takes_few =
      by_tests (λ p q. p.report.records ≤ preview_records) (λ n. omega arith)
      (λ n m h few. let c = counted_from n (state_of st t) (length mark) records in omega (arith, c.replied, c.few, few))

  -- the replies of the preview are the first of the run's
  pub run_begins : let p = previewed_run st t session budget list in
      replies_from p.list 0 p.report.records ≡ take p.report.records (replies_from whole_run.list 0 whole_run.report.records)
  run_begins =
      by_tests (λ p q. replies_from p.list 0 p.report.records ≡ take p.report.records (replies_from q.list 0 q.report.records)) (λ n. none_from list)
      (λ n m h _.
      let a = (counted_from n (state_of st t) (length mark) records).replied in
      let b = (counted_from m (state_of st t) (length mark) records).replied in
      let e = begins n m h (state_of st t) (length mark) records in
      rw (a, b, replies_filled list (taking n).replies, replies_filled list (taking m).replies)
      (e ∙ sym (take_taken n (taking m).replies) ∙ ap (λ (l : List Reply). take (length l) (taking m).replies) (sym e)))

  -- and where it did not stop with 9, it is the run's report and list
  pub run_ends : ((previewed_run st t session budget list).report.why ≡ spent → ⊥) → whole_run ≡ previewed_run st t session budget list
  run_ends =
      by_tests (λ p q. (p.report.why ≡ spent → ⊥) → q ≡ p) (λ n g. refl)
      (λ n m h _ g. ap (λ (r : Run). run_preview r.report (filled list r.replies)) (ends n m h (state_of st t) (length mark) records g))

-- also where the run is given the list that the preview has left
pub run_ends_on : (st t session : List ℕ) (budget : ℕ) (list : List ℕ) → let p = previewed_run st t session budget list in
    (p.report.why ≡ spent → ⊥) → (let d = ran st t session budget p.list in run_preview d.report d.list) ≡ p
run_ends_on st t session budget list g =
    let p = previewed_run st t session budget list in
    let same : previewed_run st t session budget p.list ≡ p = run_preview_follows st t session budget list p.report p.list refl _ refl in
    run_ends st t session budget p.list (λ w. g (sym (ap (λ (q : RunPreview). q.report.why) same) ∙ w)) ∙ same

-- on tables that keep the rules it is the run of their state with the budget that counts
pub preview_is_run : (st t session : List ℕ) (budget : ℕ) (list : List ℕ) → whole st t ≡ true → valid st t ≡ true
    → previewed_run st t session budget list ≡ (let r = run (state_of st t) session (preview_budget budget) (whole_places list) in run_preview r.report (filled list r.replies))
preview_is_run st t session budget list w v =
    ap (λ (d : Finished). run_preview d.report d.list) (ran-run st t session (preview_budget budget) list w v)
