-- How far a guard reaches (document 02 §1): the interval of an entry holds it, all its entries have the entry's guard, and it can be made no
-- longer; it is the only one, and the one that the search finds in a table that keeps the rules.
-- Assumes nothing.
use mathlib.Core.Path.{◌≡◌, refl, sym, ap, ◌∙◌, subst}
use mathlib.Core.Logic.{◌≢◌, ⊎_elim}
use mathlib.Core.List.{List, ◌∷◌}
use Prim.Native.Nat.{ℕ, zero, suc, ◌+◌, ◌-◌, ◌≤◌, ◌<◌}
use native.Mathlib.Omega.{arith}
use native.Mathlib.Nat.{zero-add}
use lib.Dec.{T, leb, ltb, eqb}
use lib.ListN.{length, get_or, drop}
use lib.Seq.{get_or-drop}
use borrow.Author.Tests.{ne_eqb, eq-eqb, eqb-true, eqb-false, ltb-true, ltb-false, leb-true, leb-false}
use Rattle.store.specs.Model.{serials, interval_first, interval_last}
use Rattle.store.specs.Table.{part, store_of, valid}
use Rattle.store.specs.Calls.{checked, interval_of, found_interval}
use Rattle.store.specs.Words.{place, ends, found, interval_words}
use Rattle.store.specs.Calls.{IntervalReply}
use Rattle.store.specs.Answers.{nothing, as_reply}
use Rattle.std.specs.Prelude.{Ok}
use Rattle.store.proofs.Bools.{decide, cond_elim}
use Rattle.store.proofs.Segments.{Stands, over, then, cut, place_zeros}
use Rattle.store.proofs.SearchLaws.{ends_none, ends_before, found_guard}
use Rattle.store.proofs.CallLaws.{passed}
use Rattle.store.proofs.TableIntervals.{later_starts, guards, standing, starts_begin}

-- ---- the law

-- x is the first entry of the interval of e: none of those up to e has another guard, and the one before has
pub record FirstOf (f : ℕ → ℕ) (e x : ℕ) : Type 0 where
  pub most : x ≤ e
  pub same : (k : ℕ) → x ≤ k → k ≤ e → f k ≡ f e
  pub edge : (k : ℕ) → x ≡ suc k → f k ≢ f e

-- x is its last entry, where n entries follow e
pub record LastOf (f : ℕ → ℕ) (e n x : ℕ) : Type 0 where
  pub least : e ≤ x
  pub most : x ≤ e + n
  pub same : (k : ℕ) → e ≤ k → k ≤ x → f k ≡ f e
  pub edge : x < e + n → f (suc x) ≢ f e

pub first_of : (f : ℕ → ℕ) (e : ℕ) → FirstOf f e (interval_first f e)
unfolding interval_first
first_of f zero = record { most = omega arith; same = λ k a b. ap f (omega arith); edge = λ k z. absurd (omega arith) }
first_of f (suc e) =
    cond_elim (FirstOf f (suc e)) (eqb (f e) (f (suc e))) (interval_first f e) (suc e)
    (λ t.
    let g = eqb-true (f e) (f (suc e)) t in
    let r = first_of f e in
    let m = r.most in
    record {
      most = omega arith;
      same = λ k a b. ⊎_elim (λ z. ap f (eqb-true k (suc e) z)) (λ z. let y = eqb-false k (suc e) z in r.same k a (omega arith) ∙ g) (decide (eqb k (suc e)));
      edge = λ k z y. r.edge k z (y ∙ sym g);
    })
    (λ t. record { most = omega arith; same = λ k a b. ap f (omega arith); edge = λ k z y. eqb-false (f e) (f (suc e)) t (ap f (let u : e ≡ k = omega arith in u) ∙ y) })

pub last_of : (f : ℕ → ℕ) (e n : ℕ) → LastOf f e n (interval_last f e n)
unfolding interval_last
last_of f e zero = record { least = omega arith; most = omega arith; same = λ k a b. ap f (omega arith); edge = λ z. absurd (omega arith) }
last_of f e (suc n) =
    cond_elim (LastOf f e (suc n)) (eqb (f (suc e)) (f e)) (interval_last f (suc e) n) e
    (λ t.
    let g = eqb-true (f (suc e)) (f e) t in
    let r = last_of f (suc e) n in
    let l = r.least in
    let m = r.most in
    record {
      least = omega arith;
      most = omega arith;
      same = λ k a b. ⊎_elim (λ z. ap f (eqb-true k e z)) (λ z. let y = eqb-false k e z in r.same k (omega arith) b ∙ g) (decide (eqb k e));
      edge = λ z y. r.edge (omega arith) (y ∙ sym g);
    })
    (λ t. record { least = omega arith; most = omega arith; same = λ k a b. ap f (omega arith); edge = λ z y. eqb-false (f (suc e)) (f e) t y })

-- ---- it is the only one

first_least : {f : ℕ → ℕ} {e x y : ℕ} → FirstOf f e x → FirstOf f e y → y ≤ x
first_least {x = x} {y} a b =
    ⊎_elim (λ z. leb-true y x z)
    (λ z.
    let o = leb-false y x z in
    let m = b.most in
    absurd (b.edge (y - 1) (omega arith) (a.same (y - 1) (omega arith) (omega arith))))
    (decide (leb y x))

pub first_only : {f : ℕ → ℕ} {e x y : ℕ} → FirstOf f e x → FirstOf f e y → x ≡ y
first_only a b = let p = first_least a b in let q = first_least b a in omega arith

last_greatest : {f : ℕ → ℕ} {e n x y : ℕ} → LastOf f e n x → LastOf f e n y → x ≤ y
last_greatest {x = x} {y} a b =
    ⊎_elim (λ z. leb-true x y z)
    (λ z.
    let o = leb-false x y z in
    let m = a.most in
    let l = b.least in
    absurd (b.edge (omega arith) (a.same (suc y) (omega arith) (omega arith))))
    (decide (leb x y))

pub last_only : {f : ℕ → ℕ} {e n x y : ℕ} → LastOf f e n x → LastOf f e n y → x ≡ y
last_only a b = let p = last_greatest a b in let q = last_greatest b a in omega arith

-- ---- the search finds it

-- the first entry: the start of the last interval that begins at or before x; the first of them all begins at e, where nothing comes before or
-- another guard does
start_first : {f : ℕ → ℕ} {e : ℕ} {ss ls : List ℕ} (x : ℕ) → e ≤ x → x < 256 → ((k : ℕ) → e ≡ suc k → f k ≢ f e) → Stands f e ss ls → FirstOf f x (get_or (e ∷ ss) (place (x + 1) ss) 0)
unfolding place
start_first {f} {e} x i o h (over m g p q) =
    let fx = g x i o in
    rw (p, place_zeros (x + 1) m)
    (record { most = i; same = λ k a b. g k a (omega arith) ∙ sym fx; edge = λ k z y. h k z (y ∙ fx) })
start_first {f} x i o h (then {e} {s} {l} {ss} {ls} a b c d g r) =
    ⊎_elim
    (λ w.
    let k : s < x + 1 = ltb-true s (x + 1) w in
    rw (ne_eqb s 0 (λ q. omega arith), w) (start_first x (omega arith) o (λ j z y. d (sym y ∙ g j (omega arith) (omega arith))) r))
    (λ w.
    let k : x + 1 ≤ s = ltb-false s (x + 1) w in
    let fx = g x i (omega arith) in
    rw (ne_eqb s 0 (λ q. omega arith), w)
    (record { most = i; same = λ j u v. g j u (omega arith) ∙ sym fx; edge = λ j z y. h j z (y ∙ fx) }))
    (decide (ltb s (x + 1)))

-- the last entry: the one before the start of the interval that follows
head_last : {f : ℕ → ℕ} {x : ℕ} {ss ls : List ℕ} → x < 256 → Stands f x ss ls → LastOf f x (255 - x) (ends (get_or ss 0 0))
head_last {f} {x} o (over zero g p q) =
    rw (p, ← ends_none 0 refl) (record { least = omega arith; most = omega arith; same = λ k a b. g k a (omega arith); edge = λ z. absurd (omega arith) })
head_last {f} {x} o (over (suc m) g p q) =
    rw (p, ← ends_none 0 refl) (record { least = omega arith; most = omega arith; same = λ k a b. g k a (omega arith); edge = λ z. absurd (omega arith) })
head_last {f} {x} o (then {s = s} a b c d g r) =
    let e : suc (s - 1) ≡ s = omega arith in
    rw (← ends_before s (λ q. omega arith))
    (record { least = omega arith; most = omega arith; same = λ k u v. g k u (omega arith); edge = λ z y. d (ap f (sym e) ∙ y) })

module _ (n : ℕ) (t : List ℕ) (w : length t ≡ 1280) (v : T (valid n t)) (e : ℕ) (h : e < 256) where
  abbrev i : ℕ
  i = place (e + 1) (later_starts t w)

  found_first : FirstOf (guards t w) e (get_or (part 256 t) i 0)
  found_first =
      subst (λ (l : List ℕ). FirstOf (guards t w) e (get_or l i 0)) (sym (starts_begin t w n v))
      (start_first e (omega arith) h (λ k z. absurd (omega arith)) (standing t w n v))

  found_last : LastOf (guards t w) e (255 - e) (ends (get_or (part 256 t) (i + 1) 0))
  found_last =
      let s : get_or (drop i (later_starts t w)) 0 0 ≡ get_or (part 256 t) (i + 1) 0 =
      get_or-drop i (later_starts t w) 0 0 ∙ get_or-drop 1 (part 256 t) (i + 0) 0 ∙ ap (λ (k : ℕ). get_or (part 256 t) k 0) (let k : 1 + (i + 0) ≡ i + 1 = omega arith in k) in
      subst (λ (x : ℕ). LastOf (guards t w) e (255 - e) (ends x)) s (head_last h (cut e (omega arith) (standing t w n v)))

  -- what the search gives in a table that keeps the rules is the entry's guard and interval
  pub interval_right : interval_words e t ≡ interval_of e (store_of t)
  unfolding interval_words found store_of
  interval_right =
      let g = guards t w in
      let z : 0 + i ≡ i = zero-add i in
      let a : get_or (part 256 t) (0 + i) 0 ≡ interval_first g e = ap (λ (x : ℕ). get_or (part 256 t) x 0) z ∙ first_only found_first (first_of g e) in
      let b : ends (get_or (part 256 t) (0 + i + 1) 0) ≡ interval_last g e (255 - e) =
      ap (λ (x : ℕ). ends (get_or (part 256 t) (x + 1) 0)) z ∙ last_only found_last (last_of g e (255 - e)) in
      rw (eq-eqb (length t) 1280 w, ← a, ← b, ← found_guard t w e h)

-- ---- the call that tests the table first

pub interval_finished : (t : List ℕ) (e : ℕ) → as_reply nothing (Ok tt) ≡ checked serials t → e < 256 → (x : IntervalReply) → x ≡ interval_words e t → x ≡ found_interval e t
interval_finished t e z h x ex =
    let o = passed t z in
    ex ∙ rw (o.0, o.1) (interval_right serials t (eqb-true (length t) 1280 o.0) (rw o.1 tt) e h)
