-- The stores of `copy`, `lay` and `lay_store`: they make the table of a fresh store.
-- Assumes nothing.
use mathlib.Core.Path.{◌≡◌, refl, sym, ap, ◌∙◌}
use mathlib.Core.Bool.{cond}
use mathlib.Core.List.{List, ◌++◌, append_assoc}
use Prim.Native.Nat.{ℕ, ◌+◌, ◌≤◌}
use native.Mathlib.Omega.{arith}
use lib.Dec.{eqb}
use lib.ListN.{length, take, drop, set, replicate, length-drop, length-replicate, replicate-append-replicate}
use lib.Seq.{take_all, length-take-le}
use borrow.Author.Tests.{eq-eqb}
use borrow.Rule.Slice.PartMut.{put_mid, mid_of}
use Rattle.std.proofs.lemmas.Slice.{take-put_mid}
use Rattle.store.specs.Model.{fresh}
use Rattle.store.specs.Table.{listed, laid, coded, table_of}

-- a list that is as long as another, after the other is copied over it
pub copied : (q p f : List ℕ) → length p ≡ length f → q ≡ cond (eqb (length p) (length f)) f p → q ≡ f
copied q p f e r = rw (eq-eqb (length p) (length f) e) at r

-- ---- arrays of equal words, laid one after another: of a table `t`, the first `b` words are laid, and the last `j` of those are `v`

module _ (t s : List ℕ) (b j v : ℕ) (q : take b t ≡ s ++ replicate j v) where
  -- `n` words more are `v`
  pub words_more : (n m : ℕ) (p : List ℕ) → b + n ≤ length t → p ≡ replicate n v → take (b + n) (put_mid b m t p) ≡ s ++ replicate (j + n) v
  words_more n m p h e =
      let l : b + n ≡ b + length p = rw (e, length-replicate {A = ℕ} n v) in
      take-put_mid b m t p (b + n) l (omega (arith, h))
      ∙ rw (q, e) (append_assoc s (replicate j v) (replicate n v) ∙ ap (λ (l : List ℕ). s ++ l) (replicate-append-replicate {A = ℕ} j n v))

  -- an array of `n` words more
  pub array_more : (n m : ℕ) (p : List ℕ) → b + n ≤ length t → m ≡ n → p ≡ cond (eqb (length (mid_of b m t)) n) (replicate n v) (mid_of b m t) → take (b + n) (put_mid b m t p) ≡ s ++ replicate (j + n) v
  array_more n m p h em e =
      let l : length (mid_of b m t) ≡ n = rw em (length-take-le n (drop b t) (rw length-drop (omega (arith, h)))) in
      words_more n m p h (rw (eq-eqb (length (mid_of b m t)) n l) at e)

-- ---- `lay_store`: all columns are laid

fresh_words : set (replicate 1280 0) 0 1 ≡ table_of fresh
unfolding table_of listed coded laid
fresh_words = refl

pub fresh_table : (t : List ℕ) → take 1280 t ≡ replicate 1280 0 → length t ≡ 1280 → set t 0 1 ≡ table_of fresh
fresh_table t q h = ap (λ (l : List ℕ). set l 0 1) (sym (take_all 1280 t (omega arith)) ∙ q) ∙ fresh_words
