-- The claim by the rules: the counters grow by the numbers of replies, as long as the limit is not met.
-- Assumes nothing.
use mathlib.Core.Path.{◌≡◌, refl, sym, ap, subst}
use mathlib.Core.Bool.{Bool, true, false, cond, ◌&&◌, ◌||◌}
use mathlib.Core.List.{List, [], ◌∷◌}
use Prim.Native.Nat.{ℕ, ◌+◌, ◌≤◌}
use native.Mathlib.Omega.{arith}
use lib.Dec.{eqb}
use borrow.Author.Tests.{le-leb, eqb-true}
use Rattle.store.specs.Model.{put}
use Rattle.store.specs.declared.Reply.{Reply}
use Rattle.counters.specs.declared.Counts.{Counts}
use Rattle.counters.specs.Model.{most, counts, none, one_if, counted, counted_by}
use Rattle.counters.proofs.CountLaws.{hits_at_most, one_if_at_most}
use Rattle.players.specs.declared.Step.{Step}
use Rattle.players.specs.Rules.{State, step}
use Rattle.players.specs.Played.{AllFit, state_after}
use Rattle.players.proofs.Tables.{Ok}
use Rattle.players.proofs.StepCases.{step_ok}
use Rattle.read_counts.specs.Claim.{reader, answers_read, from_memory, Grew, Counted, StepsGrow, StepsCounted}
use Rattle.read_counts.proofs.StepCounts.{after_reply, step_counts}

-- ---- one reply

-- the counts c became c': one more where a holds, and one more from memory where m does
record Added (a m : Bool) (c c' : Counts) : Type 0 where
  answered : c'.answered ≡ c.answered + one_if a
  hits : c'.hits ≡ c.hits + one_if m

-- below the limit one more is counted
counts_one : (c : Counts) (m : Bool) → c.answered + 1 ≤ most → c.hits ≤ c.answered → counted c m ≡ counts (c.answered + 1) (c.hits + one_if m)
unfolding counted
counts_one c true h g = rw (le-leb (c.answered + 1) most h, le-leb (c.hits + 1) most (omega arith))
counts_one c false h g = rw (le-leb (c.answered + 1) most h, le-leb (c.hits + 0) most (omega arith))

-- a reply to the player q, for the player p
module _ (cs : ℕ → Counts) (q p : ℕ) (r : Reply) (h : (cs p).answered + 1 ≤ most) (g : (cs p).hits ≤ (cs p).answered) where
  added : Added (answers_read r && eqb p q) (from_memory r && eqb p q) (cs p) (after_reply cs q r p)
  unfolding counted_by
  added = by (eqb r.code 2) (eqb r.code 3) (eqb p q) refl
    where
      by : (two three a : Bool) → eqb p q ≡ a
          → Added ((two || three) && a) (two && a) (cs p) (cond (two || three) (put q (cond two (counted (cs q) true) (cond three (counted (cs q) false) (cs q))) cs) cs p)
      by true three true e = rw (e, sym (ap cs (eqb-true p q e)), counts_one (cs p) true h g) (record { answered = refl; hits = refl })
      by true three false e = rw e (record { answered = omega arith; hits = omega arith })
      by false true true e = rw (e, sym (ap cs (eqb-true p q e)), counts_one (cs p) false h g) (record { answered = refl; hits = refl })
      by false true false e = rw e (record { answered = omega arith; hits = omega arith })
      by false false a e = record { answered = omega arith; hits = omega arith }

-- ---- a list of steps

pub steps_grow : (p : ℕ) (s : State) → Ok s → (xs : List Step) → AllFit xs → StepsGrow p s xs
unfolding state_after
steps_grow p s k [] f h = record { answered = omega arith; hits = omega arith }
steps_grow p s k (x ∷ xs) f h =
    let r = (step s x).reply in
    let s' = (step s x).state in
    let one = answers_read r && eqb p (reader s x) in
    let a = added s.counters (reader s x) p r (omega arith) (hits_at_most (s.counters p) (k.counters p)) in
    let b : Added one (from_memory r && eqb p (reader s x)) (s.counters p) (s'.counters p) =
    subst (λ (c : Counts). Added one (from_memory r && eqb p (reader s x)) (s.counters p) c) (sym (ap (λ (cs : ℕ → Counts). cs p) (step_counts s k x))) a in
    let i = steps_grow p s' (step_ok s k x f.0) xs f.1 (omega (arith, b.answered, one_if_at_most one)) in
    record { answered = omega (arith, b.answered, i.answered); hits = omega (arith, b.hits, i.hits) }

-- from zero counts
pub from_zero : {p : ℕ} {s : State} {xs : List Step} {rs : List Reply} {c c' : Counts} → c ≡ none → Grew p s xs rs c c' → Counted p s xs rs c'
from_zero z g =
    let a = ap (λ (c : Counts). c.answered) z in
    let b = ap (λ (c : Counts). c.hits) z in
    record { answered = omega (arith, a, g.answered); hits = omega (arith, b, g.hits) }

pub steps_counted : (p : ℕ) (s : State) → Ok s → (xs : List Step) → AllFit xs → StepsCounted p s xs
steps_counted p s k xs f z h = from_zero z (steps_grow p s k xs f (omega (arith, ap (λ (c : Counts). c.answered) z)))
