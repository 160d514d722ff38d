-- A run of words filled with one number: in a list of the values of a function, and in the cells of the players.
-- Assumes nothing.
use mathlib.Core.Path.{◌≡◌, sym, ap, ◌∙◌}
use mathlib.Core.Logic.{⊎_elim}
use mathlib.Core.Bool.{Bool, true, false, cond, ◌&&◌, and-false}
use mathlib.Core.List.{List, ◌++◌, append_assoc}
use Prim.Native.Nat.{ℕ, ◌+◌, ◌-◌, ◌*◌, ◌/◌, ◌%◌, ◌≤◌, ◌<◌}
use native.Mathlib.Nat.{zero-add}
use native.Mathlib.Omega.{arith}
use lib.Dec.{leb, ltb, eqb}
use lib.ListN.{length, get_or, take, drop, set, replicate, length-append, length-drop, length-replicate, length-set, get_or-replicate, get_or-append, take-append-drop}
use lib.Seq.{ext_get_or, length-take-le, take-take, take-add, drop-append-le, drop-drop, get_or-take, get_or-drop, get_or-append-add, get_or-set_same, get_or-set_other}
use borrow.Author.Tests.{eq-eqb, eqb-true, eqb-false, le-leb, lt-leb, lt-ltb, le-ltb, leb-true, leb-false, ltb-true, ltb-false}
use borrow.Rule.Slice.PartMut.{put_mid}
use Rattle.store.specs.Model.{within, fill, put}
use Rattle.store.specs.Table.{listed}
use Rattle.store.proofs.Lists.{length-listed, get_or-listed}
use Rattle.requests.proofs.Basics.{decide, clash, both_left, both_right}
use Rattle.players.specs.Rules.{Player}
use Rattle.players.specs.Regions.{region}
use Rattle.players.specs.Table.{cells}
use Rattle.players.proofs.Tables.{length-cells}
use Rattle.steps.specs.InnerWords.{filled}

-- ---- a range

module _ (lo hi i : ℕ) where
  pub within_in : lo ≤ i → i < hi → within lo hi i ≡ true
  within_in h k = rw (le-leb lo i h, lt-ltb i hi k)

  pub within_below : i < lo → within lo hi i ≡ false
  within_below h = rw (lt-leb lo i h)

  pub within_above : hi ≤ i → within lo hi i ≡ false
  within_above h = rw (le-ltb i hi h, and-false)

-- ---- a run of a list

-- l with the words from lo up to hi made v
unfoldable pub run : ℕ → ℕ → ℕ → List ℕ → List ℕ
run lo hi v l = take lo l ++ (replicate (hi - lo) v ++ drop hi l)

module _ (lo hi v : ℕ) (l : List ℕ) (a : lo ≤ hi) (h : hi ≤ length l) where
  pub length-run : length (run lo hi v l) ≡ length l
  unfolding run
  length-run = rw (length-append, length-append, length-take-le lo l (omega arith), length-replicate, length-drop) (omega arith)

  past : (i : ℕ) → get_or (run lo hi v l) (lo + i) 0 ≡ get_or (replicate (hi - lo) v ++ drop hi l) i 0
  unfolding run
  past i =
      ap (λ (k : ℕ). get_or (take lo l ++ (replicate (hi - lo) v ++ drop hi l)) (k + i) 0) (sym (length-take-le lo l (omega arith)))
      ∙ get_or-append-add (take lo l) (replicate (hi - lo) v ++ drop hi l) i 0

  run_below : (i : ℕ) → i < lo → get_or (run lo hi v l) i 0 ≡ get_or l i 0
  unfolding run
  run_below i k = get_or-append (take lo l) _ 0 i (rw (length-take-le lo l (omega arith)) k) ∙ get_or-take lo l i 0 k

  run_inside : (i : ℕ) → lo ≤ i → i < hi → get_or (run lo hi v l) i 0 ≡ v
  run_inside i j k =
      let x : i ≡ lo + (i - lo) = omega arith in
      ap (λ (m : ℕ). get_or (run lo hi v l) m 0) x
      ∙ past (i - lo)
      ∙ get_or-append (replicate (hi - lo) v) (drop hi l) 0 (i - lo) (rw length-replicate (omega arith))
      ∙ get_or-replicate {A = ℕ} (hi - lo) (i - lo) v 0 (omega arith)

  run_above : (i : ℕ) → hi ≤ i → get_or (run lo hi v l) i 0 ≡ get_or l i 0
  run_above i k =
      let x : i ≡ lo + (length (replicate {A = ℕ} (hi - lo) v) + (i - hi)) = omega (arith, length-replicate {A = ℕ} (hi - lo) v) in
      let y : hi + (i - hi) ≡ i = omega arith in
      ap (λ (m : ℕ). get_or (run lo hi v l) m 0) x
      ∙ past (length (replicate {A = ℕ} (hi - lo) v) + (i - hi))
      ∙ get_or-append-add (replicate (hi - lo) v) (drop hi l) (i - hi) 0
      ∙ get_or-drop hi l (i - hi) 0
      ∙ ap (λ (m : ℕ). get_or l m 0) y

  pub run_at : (i : ℕ) → get_or (run lo hi v l) i 0 ≡ cond (within lo hi i) v (get_or l i 0)
  run_at i =
      let at : (b : Bool) → within lo hi i ≡ b → get_or (run lo hi v l) i 0 ≡ cond b v (get_or l i 0) → get_or (run lo hi v l) i 0 ≡ cond (within lo hi i) v (get_or l i 0) =
      λ b e g. g ∙ ap (λ (c : Bool). cond c v (get_or l i 0)) (sym e) in
      ⊎_elim
      (λ b.
      let j = leb-true lo i b in
      ⊎_elim
      (λ c. let k = ltb-true i hi c in at true (within_in lo hi i j k) (run_inside i j k))
      (λ c. let k = ltb-false i hi c in at false (within_above lo hi i k) (run_above i k))
      (decide (ltb i hi)))
      (λ b. let k = leb-false lo i b in at false (within_below lo hi i k) (run_below i k))
      (decide (leb lo i))

-- a run of a region, seen from the table
pub filled-region : (b n lo hi v : ℕ) (t : List ℕ) → lo ≤ hi → hi ≤ n → b + n ≤ length t → filled b lo hi v t ≡ put_mid b n t (run lo hi v (region b n t))
unfolding run region
filled-region b n lo hi v t a h l =
    let x : b + hi - (b + lo) ≡ hi - lo = omega arith in
    let y : b + lo + (hi - lo) ≡ b + hi = omega arith in
    let r : List ℕ = take n (drop b t) in
    let e : length r ≡ n = length-take-le n (drop b t) (rw length-drop (omega arith)) in
    let d : drop hi r ++ drop n (drop b t) ≡ drop hi (drop b t) = sym (drop-append-le hi r (drop n (drop b t)) (omega arith)) ∙ rw take-append-drop in
    rw (x, take-add b lo t, drop-drop (hi - lo) (b + lo) t, y, take-take lo n (drop b t) (omega arith), append_assoc, append_assoc, append_assoc, d, drop-drop)

-- ---- the values of a function

pub run-listed : (f : ℕ → ℕ) (n lo hi v : ℕ) → lo ≤ hi → hi ≤ n → run lo hi v (listed f 0 n) ≡ listed (fill lo hi v f) 0 n
run-listed f n lo hi v a h =
    let e : length (listed f 0 n) ≡ n = length-listed f 0 n in
    ext_get_or 0 _ _ (length-run lo hi v (listed f 0 n) a (omega arith) ∙ e ∙ sym (length-listed (fill lo hi v f) 0 n))
    (λ i k.
    let j : i < n = omega (arith, length-run lo hi v (listed f 0 n) a (omega arith)) in
    run_at lo hi v (listed f 0 n) a (omega arith) i
    ∙ ap (λ (x : ℕ). cond (within lo hi i) v x) (get_or-listed f 0 n i j ∙ ap f (zero-add i))
    ∙ sym (get_or-listed (fill lo hi v f) 0 n i j ∙ ap (fill lo hi v f) (zero-add i)))

-- ---- the cells of the players

pub cells_at : (f : ℕ → ℕ → ℕ) (q x : ℕ) → q < 8 → x < 256 → get_or (cells f) (q * 256 + x) 0 ≡ f q x
cells_at f q x hq hx =
    let a : (0 + (q * 256 + x)) / 256 ≡ q = omega arith in
    let b : (0 + (q * 256 + x)) % 256 ≡ x = omega arith in
    get_or-listed (λ i. f (i / 256) (i % 256)) 0 2048 (q * 256 + x) (omega arith) ∙ ap (λ (i : ℕ). f i ((0 + (q * 256 + x)) % 256)) a ∙ ap (f q) b

pub cells_ext : (f : ℕ → ℕ → ℕ) (l : List ℕ) → length l ≡ 2048 → ((q x : ℕ) → q < 8 → x < 256 → get_or l (q * 256 + x) 0 ≡ f q x) → l ≡ cells f
cells_ext f l e m =
    ext_get_or 0 l (cells f) (e ∙ sym (length-cells f))
    (λ i h.
    let n : i ≡ i / 256 * 256 + i % 256 = omega arith in
    let a : i / 256 < 8 = omega arith in
    let b : i % 256 < 256 = omega arith in
    ap (λ (j : ℕ). get_or l j 0) n ∙ m (i / 256) (i % 256) a b ∙ sym (cells_at f (i / 256) (i % 256) a b) ∙ ap (λ (j : ℕ). get_or (cells f) j 0) (sym n))

pub same_cells : (f g : ℕ → ℕ → ℕ) → ((q x : ℕ) → q < 8 → x < 256 → f q x ≡ g q x) → cells f ≡ cells g
same_cells f g m = cells_ext g (cells f) (length-cells f) (λ q x a b. cells_at f q x a b ∙ m q x a b)

-- one cell set
pub set-cells : (f : ℕ → ℕ → ℕ) (p e v : ℕ) → p < 8 → e < 256 → set (cells f) (p * 256 + e) v ≡ cells (λ q x. cond (eqb q p && eqb x e) v (f q x))
set-cells f p e v hp he =
    cells_ext (λ q x. cond (eqb q p && eqb x e) v (f q x)) (set (cells f) (p * 256 + e) v) (length-set (cells f) (p * 256 + e) v ∙ length-cells f)
    (λ q x hq hx.
    ⊎_elim
    (λ y.
    let qp : q ≡ p = eqb-true q p (both_left (eqb q p) (eqb x e) y) in
    let xe : x ≡ e = eqb-true x e (both_right (eqb q p) (eqb x e) y) in
    rw y (rw (qp, xe) (get_or-set_same (cells f) (p * 256 + e) v 0 (rw length-cells (omega arith)))))
    (λ y. rw y (get_or-set_other (cells f) (p * 256 + e) (q * 256 + x) v 0 (apart q x hx y) ∙ cells_at f q x hq hx))
    (decide (eqb q p && eqb x e)))
  where
    apart : (q x : ℕ) → x < 256 → (eqb q p && eqb x e) ≡ false → q * 256 + x ≡ p * 256 + e → ⊥
    apart q x hx y z =
        let a : q ≡ p = omega arith in
        let b : x ≡ e = omega arith in
        clash (rw (eq-eqb q p a, eq-eqb x e b)) y

-- a run of one player's cells
module _ (p lo hi q x : ℕ) (a : lo ≤ hi) (h : hi ≤ 256) (hx : x < 256) where
  other_player : (q ≡ p → ⊥) → within (p * 256 + lo) (p * 256 + hi) (q * 256 + x) ≡ false
  other_player n =
      ⊎_elim (λ b. within_below (p * 256 + lo) (p * 256 + hi) (q * 256 + x) (let k = ltb-true q p b in omega arith))
      (λ b. within_above (p * 256 + lo) (p * 256 + hi) (q * 256 + x) (let k = ltb-false q p b in let m : p < q = omega arith in omega arith))
      (decide (ltb q p))

  same_player : q ≡ p → within (p * 256 + lo) (p * 256 + hi) (q * 256 + x) ≡ within lo hi x
  same_player e =
      ⊎_elim
      (λ b.
      let j = leb-true lo x b in
      ⊎_elim
      (λ c. let k = ltb-true x hi c in within_in (p * 256 + lo) (p * 256 + hi) (q * 256 + x) (omega arith) (omega arith) ∙ sym (within_in lo hi x j k))
      (λ c. let k = ltb-false x hi c in within_above (p * 256 + lo) (p * 256 + hi) (q * 256 + x) (omega arith) ∙ sym (within_above lo hi x k))
      (decide (ltb x hi)))
      (λ b. let k = leb-false lo x b in within_below (p * 256 + lo) (p * 256 + hi) (q * 256 + x) (omega arith) ∙ sym (within_below lo hi x k))
      (decide (leb lo x))

  within_player : within (p * 256 + lo) (p * 256 + hi) (q * 256 + x) ≡ eqb q p && within lo hi x
  within_player =
      ⊎_elim (λ b. same_player (eqb-true q p b) ∙ rw b) (λ b. other_player (eqb-false q p b) ∙ rw b) (decide (eqb q p))

pub run-cells : (f : ℕ → ℕ → ℕ) (p lo hi v : ℕ) → p < 8 → lo ≤ hi → hi ≤ 256 → run (p * 256 + lo) (p * 256 + hi) v (cells f) ≡ cells (λ q x. cond (eqb q p && within lo hi x) v (f q x))
run-cells f p lo hi v hp a h =
    let e : length (cells f) ≡ 2048 = length-cells f in
    cells_ext (λ q x. cond (eqb q p && within lo hi x) v (f q x)) (run (p * 256 + lo) (p * 256 + hi) v (cells f)) (length-run (p * 256 + lo) (p * 256 + hi) v (cells f) (omega arith) (omega arith) ∙ e)
    (λ q x hq hx.
    run_at (p * 256 + lo) (p * 256 + hi) v (cells f) (omega arith) (omega arith) (q * 256 + x)
    ∙ ap (λ (b : Bool). cond b v (get_or (cells f) (q * 256 + x) 0)) (within_player p lo hi q x a h hx)
    ∙ ap (λ (y : ℕ). cond (eqb q p && within lo hi x) v y) (cells_at f q x hq hx))

-- ---- one player changed

-- something that a player has, where player p is changed and so is that
pub put_part : {A : Type 0} (F : Player → A) (f : ℕ → Player) (p : ℕ) (pl : Player) (w : Bool) (v : A) → F pl ≡ cond w v (F (f p)) → (q : ℕ) → cond (eqb q p && w) v (F (f q)) ≡ F (put p pl f q)
put_part F f p pl w v e q =
    ⊎_elim
    (λ b.
    let qp : q ≡ p = eqb-true q p b in
    rw b (ap (λ (i : ℕ). cond w v (F (f i))) qp ∙ sym e))
    (λ b. rw b)
    (decide (eqb q p))

-- and where that is not
pub keep_part : (F : Player → ℕ) (f : ℕ → Player) (p : ℕ) (pl : Player) → F pl ≡ F (f p) → (q : ℕ) → F (f q) ≡ F (put p pl f q)
keep_part F f p pl e q = ap (λ (b : Bool). cond b 0 (F (f q))) (sym (and-false (eqb q p))) ∙ put_part F f p pl false 0 e q
