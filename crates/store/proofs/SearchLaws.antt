-- The one search for an interval, on any words: where it ends, and that the guard it finds is the entry's.
-- Assumes nothing.
use mathlib.Core.Path.{◌≡◌, refl, sym, ap, ◌∙◌}
use mathlib.Core.Logic.{⊎_elim}
use mathlib.Core.Bool.{true, false}
use mathlib.Core.List.{List, [], ◌∷◌}
use Prim.Native.Nat.{ℕ, ◌+◌, ◌-◌, ◌<◌}
use native.Mathlib.Omega.{arith}
use native.Mathlib.Nat.{zero-add}
use lib.Dec.{leb, eqb}
use lib.ListN.{length, get_or, drop, length-drop}
use lib.Seq.{drop-cons}
use borrow.Author.Tests.{eq-eqb, ne_eqb, lt-ltb, le-ltb, leb-true, leb-false}
use Rattle.store.specs.Table.{part, seek, guard_at, store_of}
use Rattle.store.specs.Words.{place, ends, span, found, found_in}
use Rattle.store.proofs.Bools.{decide}
use Rattle.store.proofs.Parts.{length-part, part_at}

-- ---- where it ends

pub ends_none : (s : ℕ) → s ≡ 0 → 255 ≡ ends s
unfolding ends
ends_none s z = rw (eq-eqb s 0 z)

pub ends_before : (s : ℕ) → (s ≡ 0 → ⊥) → s - 1 ≡ ends s
unfolding ends
ends_before s z = rw (ne_eqb s 0 z)

-- at the interval with the ordinal k
pub found_is :
    (t : List ℕ) (from e k x : ℕ) → k ≡ from + place (e + 1) (drop (from + 1) (part 256 t)) → k < 256 → x ≡ ends (get_or (part 256 t) (k + 1) 0)
    → span k (get_or t (512 + k) 0) (get_or (part 256 t) k 0) x ≡ found_in t from e
unfolding found
found_is t from e k x here h last = rw (← here, last, part_at 512 t k h)

-- ---- the guard that it finds

seek-place : (e g : ℕ) (ss ls : List ℕ) → length ss ≡ length ls → seek e g ss ls ≡ get_or (g ∷ ls) (place (e + 1) ss) 0
unfolding seek place
seek-place e g [] ls w = refl
seek-place e g (s ∷ ss) [] w = absurd (omega arith)
seek-place e g (s ∷ ss) (l ∷ ls) w =
    ⊎_elim (λ (z : eqb s 0 ≡ true). rw z)
    (λ (z : eqb s 0 ≡ false).
    ⊎_elim (λ (y : leb s e ≡ true). let k = leb-true s e y in rw (z, y, lt-ltb s (e + 1) (omega arith)) (seek-place e l ss ls (omega arith)))
    (λ (y : leb s e ≡ false). let k = leb-false s e y in rw (z, y, le-ltb s (e + 1) (omega arith)))
    (decide (leb s e)))
    (decide (eqb s 0))

pub found_guard : (t : List ℕ) → length t ≡ 1280 → (e : ℕ) → e < 256 → (found_in t 0 e).guard ≡ (store_of t).guard e
unfolding found store_of guard_at
found_guard t w e h =
    let ss = part 256 t in
    let ls = part 512 t in
    let ws = length-part 256 t (omega arith) in
    let wl = length-part 512 t (omega arith) in
    rw (lt-ltb e 256 h)
    (ap (λ (x : ℕ). get_or ls x 0) (zero-add _) ∙ ap (λ (l : List ℕ). get_or l (place (e + 1) (drop 1 ss)) 0) (drop-cons ls 0 0 (omega (arith, wl)))
    ∙ sym (seek-place e (get_or ls 0 0) (drop 1 ss) (drop 1 ls) (length-drop 1 ss ∙ ap (λ (x : ℕ). x - 1) (ws ∙ sym wl) ∙ sym (length-drop 1 ls))))
