-- What the stores of `splice` make of a column, and those of `replace` of a table.
-- Assumes nothing.
use mathlib.Core.Path.{◌≡◌, sym, ap, ◌∙◌}
use mathlib.Core.Logic.{⊎_elim}
use mathlib.Core.Bool.{true, false}
use mathlib.Core.List.{List, [], ◌∷◌, ◌++◌, append_assoc}
use Prim.Native.Nat.{ℕ, ◌+◌, ◌-◌, ◌≤◌, ◌<◌}
use native.Mathlib.Omega.{arith}
use lib.Dec.{eqb}
use lib.ListN.{length, take, drop, replicate, length-drop, length-append, length-replicate, take-append-drop}
use lib.Seq.{length-take-le, drop-drop, take-paste, drop-paste, length-paste, take-add}
use borrow.Rule.Slice.PartMut.{put_mid}
use borrow.Author.Tests.{le-leb, lt-leb}
use Rattle.store.specs.Table.{part}
use Rattle.store.specs.Inner.{spliced_by}
use Rattle.store.specs.Words.{spliced, pieces, replaced}
use Rattle.store.proofs.Bools.{decide}
use Rattle.store.proofs.Parts.{length-part, joined_parts, part_head, part_skip, put_at}

-- ---- `splice`

module _ (l xs : List ℕ) (a b c : ℕ) (i : b ≤ c) (j : c ≤ length l) (h : a + length xs + (c - b) ≤ length l) where
  abbrev tail : ℕ
  tail = a + length xs

  abbrev n : ℕ
  n = c - b

  -- the column with what is behind the cut moved, and with what is behind that cleared
  abbrev pub moved : List ℕ
  moved = take tail l ++ take n (drop b l) ++ drop (tail + n) l

  abbrev pub cleared : List ℕ
  cleared = take (tail + n) moved ++ (replicate (c - (tail + n)) 0 ++ drop (tail + n + (c - (tail + n))) moved)

  -- what stands behind the new numbers
  abbrev behind : List ℕ
  behind = take n (drop b l) ++ (replicate (c - (tail + n)) 0 ++ drop (tail + n + (c - (tail + n))) l)

  pub length-moved : length moved ≡ length l
  length-moved = length-paste l tail (drop b l) n (omega arith) (rw length-drop (omega arith))

  cleared_is : cleared ≡ take tail l ++ behind
  cleared_is =
      let k : n ≤ length (drop b l) = rw length-drop (omega arith) in
      let d : ℕ = c - (tail + n) in
      let e : drop (tail + n + d) moved ≡ drop (tail + n + d) l =
      sym (drop-drop d (tail + n) moved) ∙ ap (drop d) (drop-paste l tail (drop b l) n (omega arith) k) ∙ drop-drop d (tail + n) l in
      rw (take-paste l tail (drop b l) n (omega arith) k, e) (append_assoc (take tail l) (take n (drop b l)) (replicate d 0 ++ drop (tail + n + d) l))

  -- where nothing is left to clear
  pub cleared_none : c ≤ tail + n → moved ≡ cleared
  cleared_none z =
      let d : c - (tail + n) ≡ 0 = omega arith in
      let e : tail + n + 0 ≡ tail + n = omega arith in
      rw (d, e) (sym (take-append-drop (tail + n) moved))

  pub cleared_put : (p : List ℕ) → p ≡ replicate (length (take (c - (tail + n)) (drop (tail + n) moved))) 0 → tail + n < c → put_mid (tail + n) (c - (tail + n)) moved p ≡ cleared
  cleared_put p e z =
      let m : length (take (c - (tail + n)) (drop (tail + n) moved)) ≡ c - (tail + n) = length-take-le _ (drop (tail + n) moved) (rw (length-drop, length-moved) (omega arith)) in
      rw (e, m, drop-drop (c - (tail + n)) (tail + n) moved)

  pub spliced_put : (m : ℕ) → m ≡ length xs → put_mid a m cleared xs ≡ spliced_by xs l a b c
  unfolding spliced_by
  spliced_put m z =
      let f : take (a + length xs) l ≡ take a l ++ take (length xs) (drop a l) = take-add a (length xs) l in
      let w = length-take-le a l (omega arith) in
      let v = length-take-le (length xs) (drop a l) (rw length-drop (omega arith)) in
      rw (z, cleared_is, f, append_assoc (take a l) (take (length xs) (drop a l)) behind)
      (put_at a (length xs) (take a l) (take (length xs) (drop a l)) behind xs w v)

-- the new numbers are two at most
pub spliced_is : (l : List ℕ) (a b c m x y : ℕ) → m ≤ 2 → spliced_by (take m (x ∷ y ∷ [])) l a b c ≡ spliced l a b c m x y
unfolding spliced spliced_by
spliced_is l a b c m x y h = rw (length-take-le m (x ∷ y ∷ []) h)

pub length-spliced : (l : List ℕ) (a b c m x y : ℕ) → b ≤ c → c ≤ length l → m ≤ 2 → a + m + (c - b) ≤ length l → length (spliced l a b c m x y) ≡ length l
unfolding spliced
length-spliced l a b c m x y i j k h =
    let e : ℕ = a + m + (c - b) in
    rw (
      length-append (take a l),
      length-append (take m (x ∷ y ∷ [])),
      length-append (take (c - b) (drop b l)),
      length-append {A = ℕ} (replicate (c - e) 0),
      length-take-le a l (omega arith),
      length-take-le m (x ∷ y ∷ []) k,
      length-take-le (c - b) (drop b l) (rw length-drop (omega arith)),
      length-replicate {A = ℕ} (c - e) 0,
      length-drop (e + (c - e)) l,
    )
    (omega arith)

-- ---- `replace`

pub one_or_two : (r hi p g : ℕ) → r ≡ pieces hi p g → (1 ≤ r) × (r ≤ 2)
unfolding pieces
one_or_two r hi p g e =
    ⊎_elim (λ (w : eqb hi 256 ≡ true). let z : r ≡ 1 = e ∙ rw w in omega arith)
    (λ (w : eqb hi 256 ≡ false).
    ⊎_elim (λ (x : eqb p g ≡ true). let z : r ≡ 1 = e ∙ rw (w, x) in omega arith) (λ (x : eqb p g ≡ false). let z : r ≡ 2 = e ∙ rw (w, x) in omega arith) (decide (eqb p g)))
    (decide (eqb hi 256))

pub replaced_none : (t : List ℕ) (a b c s hi g l m : ℕ) → m ≡ pieces hi l g → 256 < a + m + (c - b) → t ≡ replaced t a b c s hi g l
unfolding replaced
replaced_none t a b c s hi g l m e h = rw (← e, lt-leb (a + m + (c - b)) 256 h)

pub replaced_put :
    (t : List ℕ) → length t ≡ 1280 → (a b c s hi g l m : ℕ) → m ≡ pieces hi l g → b ≤ c → c ≤ 256 → a + m + (c - b) ≤ 256
    → (p q : List ℕ) → p ≡ spliced (part 256 t) a b c m s hi → q ≡ spliced (part 512 (put_mid 256 256 t p)) a b c m g l
    → put_mid 512 256 (put_mid 256 256 t p) q ≡ replaced t a b c s hi g l
unfolding replaced
replaced_put t w a b c s hi g l m e i j h p q ep eq =
    let A : List ℕ = part 0 t in
    let B : List ℕ = part 256 t in
    let C : List ℕ = part 512 t in
    let D : List ℕ = part 768 t ++ part 1024 t in
    let la : length A ≡ 256 = length-part 0 t (omega arith) in
    let lb : length B ≡ 256 = length-part 256 t (omega arith) in
    let lc : length C ≡ 256 = length-part 512 t (omega arith) in
    let lp : length p ≡ 256 =
    ap length ep ∙ length-spliced B a b c m s hi i (omega arith) (one_or_two m hi _ g e).1 (omega arith) ∙ lb in
    let first : put_mid 256 256 t p ≡ A ++ (p ++ (C ++ D)) =
    ap (λ (x : List ℕ). put_mid 256 256 x p) (sym (joined_parts t w)) ∙ put_at 256 256 A B (C ++ D) p la lb in
    let third : part 512 (put_mid 256 256 t p) ≡ C =
    ap (part 512) first ∙ part_skip 256 A _ la ∙ part_skip 0 p _ lp ∙ part_head C _ lc in
    let lap : length (A ++ p) ≡ 512 = rw length-append (omega arith) in
    let both : put_mid 512 256 (put_mid 256 256 t p) q ≡ A ++ (p ++ (q ++ D)) =
    ap (λ (x : List ℕ). put_mid 512 256 x q) (first ∙ sym (append_assoc A p (C ++ D))) ∙ put_at 512 256 (A ++ p) C D q lap lc ∙ append_assoc A p (q ++ D) in
    both ∙ rw (← e, le-leb (a + m + (c - b)) 256 h, ep, eq ∙ ap (λ (x : List ℕ). spliced x a b c m g l) third)
