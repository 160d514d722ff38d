-- The counts of one player: counting keeps their rule, and the share's bound.
-- Assumes nothing.
use mathlib.Core.Bool.{Bool, true, false, ◌&&◌}
use Prim.Native.Nat.{ℕ, ◌+◌, ◌*◌, ◌/◌, ◌≤◌}
use native.Mathlib.Omega.{arith}
use native.Mathlib.Nat.{div-le_of_le-mul, mul-le-mul_right, mul_comm}
use lib.Dec.{T, leb, eqb, leb→le, le→leb}
use Rattle.store.proofs.Bools.{and_left, and_both, cond_elim}
use Rattle.counters.specs.declared.Counts.{Counts}
use Rattle.counters.specs.Model.{most, counts, none, one_if, counted, counted_by, sound}

-- ---- the rule

pub hits_at_most : (c : Counts) → T (sound c) → c.hits ≤ c.answered
hits_at_most c t = leb→le c.hits c.answered (and_left (leb c.hits c.answered) (leb c.answered most) t)

sound_from : (c : Counts) → c.hits ≤ c.answered → c.answered ≤ most → T (sound c)
sound_from c h g = and_both (leb c.hits c.answered) (leb c.answered most) (le→leb _ _ h) (le→leb _ _ g)

pub sound_none : T (sound none)
sound_none = tt

pub one_if_at_most : (b : Bool) → one_if b ≤ 1
one_if_at_most true = omega arith
one_if_at_most false = omega arith

-- one more read keeps it
sound-counted : (c : Counts) (hit : Bool) → T (sound c) → T (sound (counted c hit))
unfolding counted
sound-counted c hit t =
    cond_elim (λ r. T (sound r)) (leb (c.answered + 1) most && leb (c.hits + one_if hit) most) (counts (c.answered + 1) (c.hits + one_if hit)) c
    (λ e.
    let a : T (leb (c.answered + 1) most) = and_left (leb (c.answered + 1) most) (leb (c.hits + one_if hit) most) (rw e tt) in
    sound_from (counts (c.answered + 1) (c.hits + one_if hit)) (omega (arith, hits_at_most c t, one_if_at_most hit)) (leb→le _ _ a))
    (λ _. t)

pub sound_kept : (c : Counts) (code : ℕ) → T (sound c) → T (sound (counted_by c code))
unfolding counted_by
sound_kept c code t =
    cond_elim (λ r. T (sound r)) (eqb code 2) _ _ (λ _. sound-counted c true t)
    (λ _. cond_elim (λ r. T (sound r)) (eqb code 3) _ _ (λ _. sound-counted c false t) (λ _. t))

-- ---- the share

-- the quotient is at most 1,000
pub low_quotient : (answered hits : ℕ) → 1 ≤ answered → hits ≤ answered → 1000 * hits / answered ≤ 1000
low_quotient answered hits h g =
    div-le_of_le-mul answered (omega (arith, mul-le-mul_right 1000 g, mul_comm answered 1000, mul_comm hits 1000))
