-- The region of eight players' counts, both ways; its rule; and what the calls do to it.
-- Assumes nothing.
use mathlib.Core.Path.{◌≡◌, refl, sym, ap, ◌∙◌, fun_ext}
use mathlib.Core.Logic.{⊎_elim}
use mathlib.Core.Bool.{true, cond}
use mathlib.Core.List.{List}
use Prim.Native.Nat.{ℕ, ◌<◌, ◌≤◌}
use native.Mathlib.Nat.{zero-add}
use native.Mathlib.Omega.{arith}
use lib.Dec.{T, ltb, eqb}
use lib.ListN.{length, length-set}
use borrow.Author.Tests.{lt-ltb, le-ltb, ltb-true, ltb-false, eq-eqb}
use Rattle.store.specs.Model.{put}
use Rattle.store.specs.Calls.{reply}
use Rattle.store.proofs.Bools.{decide, is_true, and_right, and_both}
use Rattle.counters.specs.declared.Counts.{Counts}
use Rattle.counters.specs.Model.{none, counted_by, sound, share}
use Rattle.counters.specs.Region.{whole, counts_of, region_of, all_sound, valid, with_counts, counted_at, shared}
use Rattle.counters.proofs.WordLaws.{length_words, counts_words, words_are, counts_out, counts-set, sound_words, sound_at}

-- ---- both ways

pub length_region : (f : ℕ → Counts) → length (region_of f) ≡ 16
unfolding region_of
length_region f = length_words f 0 8

whole_region : (f : ℕ → Counts) → whole (region_of f) ≡ true
whole_region f = eq-eqb _ 16 (length_region f)

-- the counts of a player, read back
counts_at : (f : ℕ → Counts) (p : ℕ) → p < 8 → counts_of (region_of f) p ≡ f p
unfolding region_of
counts_at f p h = counts_words f 0 8 p h ∙ ap f (zero-add p)

-- a number that is no player has zero counts
pub no_counts : (t : List ℕ) → length t ≡ 16 → (p : ℕ) → 8 ≤ p → counts_of t p ≡ none
no_counts t q p h = counts_out t p (omega (arith, q))

pub counts_region : (f : ℕ → Counts) → ((p : ℕ) → 8 ≤ p → f p ≡ none) → counts_of (region_of f) ≡ f
counts_region f z =
    fun_ext
    (λ p.
    ⊎_elim (λ w. counts_at f p (ltb-true p 8 w))
    (λ w.
    let h : 8 ≤ p = ltb-false p 8 w in
    no_counts (region_of f) (length_region f) p h ∙ sym (z p h))
    (decide (ltb p 8)))

-- 16 words are the region of the counts that they hold
region_is : (f : ℕ → Counts) (t : List ℕ) → length t ≡ 16 → ((p : ℕ) → p < 8 → f p ≡ counts_of t p) → region_of f ≡ t
unfolding region_of
region_is f t q e = words_are f 0 8 t q (λ p h. ap f (zero-add p) ∙ e p h)

pub region_counts : (t : List ℕ) → length t ≡ 16 → region_of (counts_of t) ≡ t
region_counts t q = region_is (counts_of t) t q (λ p h. refl)

-- ---- the rule

pub valid-sound : (t : List ℕ) → T (valid t) → (p : ℕ) → T (sound (counts_of t p))
unfolding valid
valid-sound t v p = sound_at t p (and_right (whole t) (all_sound t) v)

pub sound-valid : (f : ℕ → Counts) → ((p : ℕ) → T (sound (f p))) → T (valid (region_of f))
unfolding valid region_of
sound-valid f s = and_both (whole (region_of f)) (all_sound (region_of f)) (rw (whole_region f) tt) (sound_words f 0 8 s)

-- ---- the calls

-- one player's words set
set_region : (f : ℕ → Counts) (p : ℕ) (c : Counts) → p < 8 → with_counts p c (region_of f) ≡ region_of (put p c f)
set_region f p c h =
    sym
    (region_is (put p c f) (with_counts p c (region_of f)) (simp length-set (length_region f))
    (λ k g.
    sym (counts-set (region_of f) p c k (rw (length_region f) (omega arith)) ∙ ap (λ (d : Counts). cond (eqb k p) c d) (counts_at f k g))))

pub counted_region : (f : ℕ → Counts) (p code : ℕ) → p < 8 → counted_at p code (region_of f) ≡ region_of (put p (counted_by (f p) code) f)
unfolding counted_at
counted_region f p code h = rw (whole_region f, lt-ltb p 8 h, counts_at f p h) (set_region f p (counted_by (f p) code) h)

pub shared_region : (f : ℕ → Counts) → ((p : ℕ) → T (sound (f p))) → (p : ℕ) → p < 8 → shared p (region_of f) ≡ share (f p)
unfolding shared
shared_region f s p h = rw (whole_region f, is_true (valid (region_of f)) (sound-valid f s), lt-ltb p 8 h, counts_at f p h)

pub shared_out : (f : ℕ → Counts) → ((p : ℕ) → T (sound (f p))) → (p : ℕ) → 8 ≤ p → shared p (region_of f) ≡ reply 28 0 0
unfolding shared
shared_out f s p h = rw (whole_region f, is_true (valid (region_of f)) (sound-valid f s), le-ltb p 8 h)
