-- The words of some players' counts, two for each.
-- Assumes nothing.
use mathlib.Core.Path.{◌≡◌, refl, sym, ap, ◌∙◌}
use mathlib.Core.Logic.{⊎_elim}
use mathlib.Core.Bool.{cond}
use mathlib.Core.List.{List, [], ◌∷◌}
use Prim.Native.Nat.{ℕ, zero, suc, ◌+◌, ◌*◌, ◌<◌, ◌≤◌}
use native.Mathlib.Nat.{not-suc-le-zero, le_of_suc-le-suc, add-zero, add-suc, suc-add}
use native.Mathlib.Omega.{arith}
use lib.Dec.{T, eqb}
use lib.ListN.{length, set, length-set, get_or-eq_default}
use lib.Seq.{get_or-set_same, get_or-set_other}
use borrow.Author.Tests.{eqb-true, eqb-false}
use Rattle.store.proofs.Bools.{decide, and_left, and_right, and_both}
use Rattle.counters.specs.declared.Counts.{Counts}
use Rattle.counters.specs.Model.{counts, none, sound}
use Rattle.counters.specs.Region.{counts_of, words_from, all_sound, with_counts}
use Rattle.counters.proofs.CountLaws.{sound_none}

pub length_words : (f : ℕ → Counts) (p n : ℕ) → length (words_from f p n) ≡ n * 2
unfolding words_from
length_words f p zero = refl
length_words f p (suc n) = omega (arith, length_words f (suc p) n)

-- the first player of some words, and those after it
counts_first : (a h : ℕ) (t : List ℕ) → counts_of (a ∷ h ∷ t) 0 ≡ counts a h
unfolding counts_of
counts_first a h t = refl

counts_rest : (a h : ℕ) (t : List ℕ) (k : ℕ) → counts_of (a ∷ h ∷ t) (suc k) ≡ counts_of t k
unfolding counts_of
counts_rest a h t k =
    let e : suc k * 2 ≡ suc (suc (k * 2)) = omega arith in
    let e' : suc k * 2 + 1 ≡ suc (suc (k * 2 + 1)) = omega arith in
    rw (e', e)

-- read back
pub counts_words : (f : ℕ → Counts) (p n k : ℕ) → k < n → counts_of (words_from f p n) k ≡ f (p + k)
unfolding words_from
counts_words f p zero k h = absurd (not-suc-le-zero h)
counts_words f p (suc n) zero h = counts_first (f p).answered (f p).hits (words_from f (suc p) n) ∙ ap f (sym (add-zero p))
counts_words f p (suc n) (suc k) h =
    counts_rest (f p).answered (f p).hits (words_from f (suc p) n) k ∙ counts_words f (suc p) n k (le_of_suc-le-suc h) ∙ ap f (suc-add p k ∙ sym (add-suc p k))

-- words whose counts are these players' are the words of these counts
pub words_are : (f : ℕ → Counts) (p n : ℕ) (t : List ℕ) → length t ≡ n * 2 → ((k : ℕ) → k < n → f (p + k) ≡ counts_of t k) → words_from f p n ≡ t
unfolding words_from
words_are f p zero [] q e = refl
words_are f p zero (a ∷ t) q e = absurd (omega (arith, q))
words_are f p (suc n) [] q e = absurd (omega (arith, q))
words_are f p (suc n) (a ∷ []) q e = absurd (omega (arith, q))
words_are f p (suc n) (a ∷ h ∷ t) q e =
    let here : f p ≡ counts a h = ap f (sym (add-zero p)) ∙ e 0 (omega arith) ∙ counts_first a h t in
    rw (here, words_are f (suc p) n t (omega (arith, q)) (λ k g. ap f (suc-add p k ∙ sym (add-suc p k)) ∙ e (suc k) (omega arith) ∙ counts_rest a h t k))

-- past the last word a player has zero counts
pub counts_out : (t : List ℕ) (p : ℕ) → length t ≤ p * 2 → counts_of t p ≡ none
unfolding counts_of
counts_out t p h = rw (get_or-eq_default t 0 h, get_or-eq_default t 0 {n = p * 2 + 1} (omega arith))

-- ---- one player's words set

pub counts-set : (t : List ℕ) (p : ℕ) (c : Counts) (k : ℕ) → p * 2 + 1 < length t → counts_of (with_counts p c t) k ≡ cond (eqb k p) c (counts_of t k)
unfolding counts_of
counts-set t p c k h =
    let t' = set t (p * 2) c.answered in
    ⊎_elim
    (λ w.
    let e : k ≡ p = eqb-true k p w in
    rw (
      w,
      e,
      get_or-set_other t' (p * 2 + 1) (p * 2) c.hits 0 (λ u. omega arith),
      get_or-set_same t (p * 2) c.answered 0 (omega arith),
      get_or-set_same t' (p * 2 + 1) c.hits 0 (rw length-set h),
    ))
    (λ w.
    let n : k ≡ p → ⊥ = eqb-false k p w in
    rw (
      w,
      get_or-set_other t' (p * 2 + 1) (k * 2) c.hits 0 (λ u. n (omega arith)),
      get_or-set_other t (p * 2) (k * 2) c.answered 0 (λ u. n (omega arith)),
      get_or-set_other t' (p * 2 + 1) (k * 2 + 1) c.hits 0 (λ u. n (omega arith)),
      get_or-set_other t (p * 2) (k * 2 + 1) c.answered 0 (λ u. n (omega arith)),
    ))
    (decide (eqb k p))

-- ---- the rule

pub sound_words : (f : ℕ → Counts) (p n : ℕ) → ((k : ℕ) → T (sound (f k))) → T (all_sound (words_from f p n))
unfolding words_from all_sound
sound_words f p zero s = tt
sound_words f p (suc n) s = and_both (sound (f p)) (all_sound (words_from f (suc p) n)) (s p) (sound_words f (suc p) n s)

pub sound_at : (t : List ℕ) (k : ℕ) → T (all_sound t) → T (sound (counts_of t k))
unfolding all_sound
sound_at [] k s = rw (counts_out [] k (omega arith)) sound_none
sound_at (a ∷ []) k s = absurd s
sound_at (a ∷ h ∷ t) zero s = rw (counts_first a h t) (and_left (sound (counts a h)) (all_sound t) s)
sound_at (a ∷ h ∷ t) (suc k) s = rw (counts_rest a h t k) (sound_at t k (and_right (sound (counts a h)) (all_sound t) s))
