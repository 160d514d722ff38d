-- Words written one after another.
-- Assumes nothing.
use mathlib.Core.Path.{◌≡◌, refl, sym, ap, ◌∙◌}
use mathlib.Core.List.{List, [], ◌∷◌, ◌++◌, append-nil, append_assoc}
use Prim.Native.Nat.{ℕ, zero, suc, ◌+◌, ◌-◌, ◌*◌, ◌<◌, ◌≤◌}
use native.Mathlib.Nat.{suc-add, zero-add, sub_self}
use native.Mathlib.Numerals.{add-one}
use native.Mathlib.Omega.{arith}
use lib.ListN.{length, get_or, take, drop, set, replicate, length-set, length-drop, length-append, drop_of_length-le, take-append-drop}
use lib.Seq.{length-take-le, take_at, drop-append-add, get_or-drop, take-suc, take-suc-set, take_all, take-set-le, drop-set-lt, drop-set-add, drop-drop}
use borrow.Rule.Slice.PartMut.{put_mid}
use Rattle.requests.specs.Calls.{over}

-- ---- `over`

-- nothing is written past the end
pub over_out : (l : List ℕ) (i : ℕ) (vs : List ℕ) → length l ≤ i → over l i vs ≡ l
unfolding over
over_out [] i vs h = refl
over_out (x ∷ l) zero vs h = absurd (omega (arith, h))
over_out (x ∷ l) (suc i) vs h = ap (λ (t : List ℕ). x ∷ t) (over_out l i vs (omega (arith, h)))

-- words written past a first list
pub over_skip : (xs l : List ℕ) (i : ℕ) (vs : List ℕ) → over (xs ++ l) (length xs + i) vs ≡ xs ++ over l i vs
unfolding over
over_skip [] l i vs = rw zero-add
over_skip (x ∷ xs) l i vs = rw suc-add (ap (λ (t : List ℕ). x ∷ t) (over_skip xs l i vs))

-- words written from the front
pub over_front : (l vs : List ℕ) → length vs ≤ length l → over l 0 vs ≡ vs ++ drop (length vs) l
unfolding over
over_front [] [] h = refl
over_front [] (v ∷ vs) h = absurd (omega (arith, h))
over_front (x ∷ l) [] h = refl
over_front (x ∷ l) (v ∷ vs) h = ap (λ (t : List ℕ). v ∷ t) (over_front l vs (omega (arith, h)))

pub drop_zeros : (m n : ℕ) → drop {A = ℕ} m (replicate (m + n) 0) ≡ replicate n 0
drop_zeros zero n = rw zero-add
drop_zeros (suc m) n = rw suc-add (drop_zeros m n)

-- one word written, as seen from a place before it
pub set_from : (l : List ℕ) (n i v : ℕ) → set l (n + i) v ≡ take n l ++ set (drop n l) i v
set_from l n i v = sym (take-append-drop n (set l (n + i) v)) ∙ rw (take-set-le n l (n + i) v (omega arith), drop-set-add n l i v)

pub sets_from : (l : List ℕ) (n i u j v m x : ℕ) → set (set (set l (n + i) u) (n + j) v) (n + m) x ≡ take n l ++ set (set (set (drop n l) i u) j v) m x
sets_from l n i u j v m x =
    let l₁ = set l (n + i) u in
    let l₂ = set l₁ (n + j) v in
    sym (take-append-drop n (set l₂ (n + m) x))
    ∙ rw (
      take-set-le n l₂ (n + m) x (omega arith),
      take-set-le n l₁ (n + j) v (omega arith),
      take-set-le n l (n + i) u (omega arith),
      drop-set-add n l₂ m x,
      drop-set-add n l₁ j v,
      drop-set-add n l i u,
    )

-- ---- a run of words that fits

pub over_is : (l : List ℕ) (i : ℕ) (vs : List ℕ) → i + length vs ≤ length l → over l i vs ≡ take i l ++ (vs ++ drop (i + length vs) l)
over_is l i vs h =
    let n : length (take i l) + 0 ≡ i = omega (arith, length-take-le i l (omega arith)) in
    let e : over (take i l ++ drop i l) (length (take i l) + 0) vs ≡ take i l ++ over (drop i l) 0 vs = over_skip (take i l) (drop i l) 0 vs in
    let f : over l i vs ≡ take i l ++ over (drop i l) 0 vs = rw (take-append-drop, n) at e in
    f ∙ rw (over_front (drop i l) vs (rw length-drop (omega arith)), drop-drop)

module _ (l : List ℕ) (i : ℕ) (vs : List ℕ) (h : i + length vs ≤ length l) where
  pub length-over : length (over l i vs) ≡ length l
  length-over = rw (over_is l i vs h, length-append, length-append, length-take-le i l (omega arith), length-drop) (omega arith)

  pub take-over : take (i + length vs) (over l i vs) ≡ take i l ++ vs
  take-over =
      ap (take (i + length vs)) (over_is l i vs h ∙ sym (append_assoc (take i l) vs (drop (i + length vs) l)))
      ∙ take_at (take i l ++ vs) (drop (i + length vs) l) (i + length vs) (length-append (take i l) vs ∙ ap (λ (k : ℕ). k + length vs) (length-take-le i l (omega arith)))

  pub drop-over : (n : ℕ) → i + length vs ≤ n → drop n (over l i vs) ≡ drop n l
  drop-over n k =
      let e : n ≡ length (take i l ++ vs) + (n - (i + length vs)) = omega (arith, length-append (take i l) vs, length-take-le i l (omega arith)) in
      let f : i + length vs + (n - (i + length vs)) ≡ n = omega arith in
      rw (over_is l i vs h, ← append_assoc (take i l) vs (drop (i + length vs) l))
      (ap (λ (m : ℕ). drop m ((take i l ++ vs) ++ drop (i + length vs) l)) e
      ∙ drop-append-add (take i l ++ vs) (drop (i + length vs) l) (n - (i + length vs))
      ∙ drop-drop (n - (i + length vs)) (i + length vs) l
      ∙ ap (λ (m : ℕ). drop m l) f)

-- ---- words moved down by n, from b on up to i

pub record Shifted (n b i : ℕ) (w₀ w : List ℕ) : Type 0 where
  pub long : length w ≡ length w₀
  pub front : take i w ≡ take b w₀ ++ take (i - b) (drop (b + n) w₀)
  pub back : drop i w ≡ drop i w₀

pub shift_none : (n b : ℕ) (w : List ℕ) → Shifted n b b w w
shift_none n b w = record { long = refl; front = rw sub_self (sym (append-nil (take b w))); back = refl }

pub shift_more : (n b i : ℕ) (w₀ w : List ℕ) → b ≤ i → i + n < length w → Shifted n b i w₀ w → Shifted n b (i + 1) w₀ (set w i (get_or w (i + n) 0))
shift_more n b i w₀ w hb h m =
    let v : ℕ = get_or w (i + n) 0 in
    let e : v ≡ get_or w₀ (i + n) 0 = sym (get_or-drop i w n 0) ∙ ap (λ (l : List ℕ). get_or l n 0) m.back ∙ get_or-drop i w₀ n 0 in
    let x : b + n + (i - b) ≡ i + n = omega arith in
    let y : get_or (drop (b + n) w₀) (i - b) 0 ≡ v = get_or-drop (b + n) w₀ (i - b) 0 ∙ rw x (sym e) in
    let z : i + 1 - b ≡ suc (i - b) = omega arith in
    let q : i - b < length (drop (b + n) w₀) = rw length-drop (omega (arith, m.long)) in
    record {
      long = length-set w i v ∙ m.long;
      front =
          rw (z, add-one)
          (take-suc-set w i v (omega arith) ∙ rw (m.front, take-suc (drop (b + n) w₀) (i - b) 0 q, y) (append_assoc (take b w₀) (take (i - b) (drop (b + n) w₀)) (v ∷ [])));
      back =
          drop-set-lt (i + 1) w i v (omega arith)
          ∙ sym (drop-drop 1 i w) ∙ ap (λ (l : List ℕ). drop 1 l) m.back ∙ drop-drop 1 i w₀;
    }

-- the first place dropped: the words after it moved down, and the last place made 0
pub drop_done : (w₀ w p : List ℕ) (n i : ℕ) → n + 12 ≡ length w₀ → i ≡ n → Shifted 12 0 i w₀ w → p ≡ replicate (length (take (length w - n) (drop n w))) 0
    → put_mid n (length w - n) w p ≡ drop 12 w₀ ++ replicate 12 0
drop_done w₀ w p n i l z m e =
    let s : n - 0 ≡ n = omega arith in
    let front : take n w ≡ take n (drop 12 w₀) = rw (z, s) at m.front in
    let t : take n (drop 12 w₀) ≡ drop 12 w₀ = take_all n (drop 12 w₀) (rw length-drop (omega arith)) in
    let r : length w - n ≡ 12 = omega (arith, m.long) in
    let q : length (drop n w) ≡ 12 = rw length-drop r in
    let d : take 12 (drop n w) ≡ drop n w = take_all 12 (drop n w) (omega arith) in
    let o : drop 12 (drop n w) ≡ [] = drop_of_length-le (drop n w) {i = 12} (omega arith) in
    rw (e, r, d, q, o, front, t)

-- a place moved to where it stands
pub move_none : (w : List ℕ) (j k : ℕ) → j ≡ k → k < 64 → length w ≡ 768 → w ≡ over w (j * 12) (take 12 (drop (k * 12) w))
move_none w j k e h l =
    let c : List ℕ = take 12 (drop (k * 12) w) in
    let lc : length c ≡ 12 = length-take-le 12 (drop (k * 12) w) (rw length-drop (omega arith)) in
    let s : over w (k * 12) c ≡ take (k * 12) w ++ (c ++ drop (k * 12 + 12) w) = rw lc at (over_is w (k * 12) c (omega arith)) in
    rw (e, s, ← drop-drop 12 (k * 12) w, take-append-drop, take-append-drop)
