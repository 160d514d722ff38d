-- On a table that keeps the rules for some last serial, what the calls do to its words is what the rules say of its store.
-- Assumes nothing.
use mathlib.Core.Path.{◌≡◌, refl, sym, ap, ◌∙◌}
use mathlib.Core.Bool.{Bool, true, false, cond, not, ◌&&◌, true≢false}
use mathlib.Core.List.{List}
use Prim.Native.Nat.{ℕ, ◌+◌, ◌-◌, ◌≤◌, ◌<◌}
use native.Mathlib.Nat.{zero-add}
use lib.Dec.{T, ltb, eqb}
use lib.ListN.{length, get_or}
use borrow.Author.Tests.{eq-eqb, ne_eqb, lt-ltb, eqb-true, eqb-false, ltb-true, leb-true}
use Rattle.store.specs.Model.{Store, bad_range, one_tablet, guarded, commits, barred}
use Rattle.store.specs.Table.{store_of, table_of, valid}
use Rattle.store.specs.Calls.{reply, Result, result, Done, done, encoded, Refines, install, read, commit, split, merge, restart}
use Rattle.store.specs.Words.{tested, found_in, replaced, guarded_words, install_words, read_words, commit_words, split_words, merge_words, restart_words}
use Rattle.store.specs.declared.Reply.{Reply}
use Rattle.store.specs.declared.Range.{Range}
use Rattle.store.specs.declared.Span.{Span}
use Rattle.store.proofs.Parts.{part_at}
use Rattle.store.proofs.Tables.{table_store}
use Rattle.store.proofs.TabletLaws.{tablet_range}
use Rattle.store.proofs.GuardedWords.{guarded_new, guarded_on}
use Rattle.store.proofs.CallLaws.{set_boundary, set_cell}

-- ---- the guards, as the code finds its places

second : (a b : Bool) (x y : List ℕ) → (a ≡ true → b ≡ true) → cond (a && not b) x y ≡ y
second true b x y f = rw (f refl)
second false b x y f = refl

module _ (t : List ℕ) (lo hi g : ℕ) (x y z : Span) (ex : x ≡ found_in t 0 (lo - 1)) (ey : y ≡ found_in t x.ordinal hi) (ez : z ≡ found_in t y.ordinal 255) where
  pub new_words : 0 < lo → (x.guard ≡ g → ⊥) → replaced t (x.ordinal + 1) (y.ordinal + 1) (z.ordinal + 1) lo hi g y.guard ≡ guarded_words lo hi g t
  unfolding guarded_words
  new_words o ne = rw (← ex, ← ey, ← ez, lt-ltb 0 lo o, ne_eqb x.guard g ne)

  pub on_words : (0 < lo → x.guard ≡ g) → replaced t x.ordinal (y.ordinal + 1) (z.ordinal + 1) x.first hi g y.guard ≡ guarded_words lo hi g t
  unfolding guarded_words
  on_words eg = rw (← ex, ← ey, ← ez) (sym (second (ltb 0 lo) (eqb x.guard g) _ _ (λ o. eq-eqb x.guard g (eg (ltb-true 0 lo o)))))

-- one of two ways
either : (b : Bool) (x y z : List ℕ) → (b ≡ true → x ≡ z) → (b ≡ false → y ≡ z) → cond b x y ≡ z
either true x y z f g = f refl
either false x y z f g = g refl

both : (a b : Bool) → (a && not b) ≡ true → (a ≡ true) × (b ≡ false)
both true true e = absurd (true≢false (sym e))
both true false e = (refl, refl)
both false b e = absurd (true≢false (sym e))

not_both : (a b : Bool) → (a && not b) ≡ false → a ≡ true → b ≡ true
not_both true true e h = refl
not_both true false e h = absurd (true≢false e)
not_both false b e h = absurd (true≢false (sym h))

module _ (n : ℕ) (t : List ℕ) (w : length t ≡ 1280) (v : T (valid n t)) where
  pub guarded_words_right : (lo hi g : ℕ) → lo < hi → hi ≤ 256 → guarded_words lo hi g t ≡ table_of (guarded (store_of t) lo hi g)
  unfolding guarded_words
  guarded_words_right lo hi g h k =
      let x = (found_in t 0 (lo - 1)).guard in
      either (ltb 0 lo && not (eqb x g)) _ _ _
      (λ e.
      let o = both _ _ e in
      guarded_new t w lo hi g h k n v (ltb-true 0 lo o.0) (eqb-false x g o.1))
      (λ e. guarded_on t w lo hi g h k n v (λ o. eqb-true x g (not_both _ _ e (lt-ltb 0 lo o))))

  -- the table stays
  same : (r : Reply) → done r t ≡ encoded (result r (store_of t))
  same r = rw (table_store n t w v)

  -- one of two results
  one_of : (b : Bool) (x y : Done) (p q : Result) → (b ≡ true → x ≡ encoded p) → (b ≡ false → y ≡ encoded q) → cond b x y ≡ encoded (cond b p q)
  one_of true x y p q f g = f refl
  one_of false x y p q f g = g refl

  in_range : (a b : Bool) → not (a && b) ≡ false → (a ≡ true) × (b ≡ true)
  in_range true true e = (refl, refl)
  in_range true false e = absurd (true≢false e)
  in_range false b e = absurd (true≢false e)

  pub install_right : (r : Range) (g : ℕ) → install_words r g t ≡ encoded (install r g (store_of t))
  unfolding install_words
  install_right r g =
      one_of (bad_range r) _ _ _ _ (λ _. same _)
      (λ e.
      let o = in_range _ _ e in
      one_of (one_tablet (store_of t) r.low r.high) _ _ _ _
      (λ _. ap (done (reply 0 1 0)) (guarded_words_right r.low r.high g (ltb-true r.low r.high o.0) (leb-true r.high 256 o.1)))
      (λ _. same _))

  module _ (e : ℕ) (h : e < 256) where
    pub read_right : read_words e t ≡ encoded (read e (store_of t))
    unfolding read_words store_of
    read_right = rw (part_at 768 t e h, part_at 1024 t e h) (same _)

    pub commit_right : (x s g : ℕ) → commit_words e x s g t ≡ encoded (commit e x s g (store_of t))
    unfolding commit_words
    commit_right x s g = one_of (commits (store_of t) e g) _ _ _ _ (λ _. ap (done (reply 0 1 0)) (set_cell n t w v e h s x)) (λ _. same _)

    boundary_is : (store_of t).boundary e ≡ get_or t e 0
    unfolding store_of
    boundary_is = part_at 0 t e h ∙ ap (λ (i : ℕ). get_or t i 0) (zero-add e)

    pub split_right : split_words e t ≡ encoded (split e (store_of t))
    unfolding split_words
    split_right =
        one_of (eqb e 0) _ _ _ _ (λ _. same _)
        (λ _. rw (← boundary_is) (one_of (eqb ((store_of t).boundary e) 1) _ _ _ _ (λ _. same _) (λ _. ap (done (reply 0 0 0)) (set_boundary n t w v e h 1))))

    pub merge_right : merge_words e t ≡ encoded (merge e (store_of t))
    unfolding merge_words
    merge_right =
        one_of (eqb e 0) _ _ _ _ (λ _. same _)
        (λ _. rw (← boundary_is) (one_of (eqb ((store_of t).boundary e) 0) _ _ _ _ (λ _. same _) (λ _. ap (done (reply 0 0 0)) (set_boundary n t w v e h 0))))

    pub restart_right : restart_words e t ≡ encoded (restart e (store_of t))
    unfolding restart_words
    restart_right =
        let o = tablet_range (store_of t).boundary e _ _ h refl refl in
        ap (done (reply 0 0 0)) (guarded_words_right _ _ barred o.0 o.1)

-- ---- what a crate above needs: on a table that keeps the rules each call does what Calls says

refines_of : (f : Store → Result) (w : List ℕ → Done) (t : List ℕ) (r : Reply) (t' : List ℕ) → ((n : ℕ) → length t ≡ 1280 → T (valid n t) → w t ≡ encoded (f (store_of t))) → done r t' ≡ tested w t → Refines f t r t'
refines_of f w t r t' h e = record { wrong = λ x. e ∙ rw (ne_eqb (length t) 1280 x); right = λ n l v. e ∙ rw (eq-eqb (length t) 1280 l) (h n l v) }

module _ {t : List ℕ} {r : Reply} {t' : List ℕ} where
  pub install_refines : (g : Range) (s : ℕ) → done r t' ≡ tested (install_words g s) t → Refines (install g s) t r t'
  install_refines g s = refines_of (install g s) (install_words g s) t r t' (λ n l v. install_right n t l v g s)

  module _ (e : ℕ) (h : e < 256) where
    pub read_refines : done r t' ≡ tested (read_words e) t → Refines (read e) t r t'
    read_refines = refines_of (read e) (read_words e) t r t' (λ n l v. read_right n t l v e h)

    pub commit_refines : (x s g : ℕ) → done r t' ≡ tested (commit_words e x s g) t → Refines (commit e x s g) t r t'
    commit_refines x s g = refines_of (commit e x s g) (commit_words e x s g) t r t' (λ n l v. commit_right n t l v e h x s g)

    pub split_refines : done r t' ≡ tested (split_words e) t → Refines (split e) t r t'
    split_refines = refines_of (split e) (split_words e) t r t' (λ n l v. split_right n t l v e h)

    pub merge_refines : done r t' ≡ tested (merge_words e) t → Refines (merge e) t r t'
    merge_refines = refines_of (merge e) (merge_words e) t r t' (λ n l v. merge_right n t l v e h)

    pub restart_refines : done r t' ≡ tested (restart_words e) t → Refines (restart e) t r t'
    restart_refines = refines_of (restart e) (restart_words e) t r t' (λ n l v. restart_right n t l v e h)
