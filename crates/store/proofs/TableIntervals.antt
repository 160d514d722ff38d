-- The intervals of a table that keeps the rules stand for the guards of its store.
-- Assumes nothing.
use mathlib.Core.Path.{◌≡◌, sym, ap, ◌∙◌, subst}
use mathlib.Core.Bool.{◌&&◌}
use mathlib.Core.List.{List, ◌∷◌}
use Prim.Native.Nat.{ℕ, ◌-◌}
use native.Mathlib.Omega.{arith}
use lib.Dec.{T, eqb, eqb→eq}
use lib.ListN.{length, get_or, drop, length-drop}
use lib.Seq.{drop-cons}
use borrow.Author.Tests.{lt-ltb}
use Rattle.store.specs.Table.{part, guard_at, guard_holds, rising, valid}
use Rattle.store.proofs.Bools.{and_left, and_right}
use Rattle.store.proofs.Parts.{length-part}
use Rattle.store.proofs.Intervals.{Rising, rising_is, seek_before}
use Rattle.store.proofs.Segments.{Stands, rising_stands}
use Rattle.store.proofs.Turns.{intervals_begins}
use Rattle.store.proofs.Tables.{valid-intervals}

module _ (t : List ℕ) (w : length t ≡ 1280) where
  -- the starts and the guards after the first
  abbrev pub later_starts : List ℕ
  later_starts = drop 1 (part 256 t)

  abbrev pub later_guards : List ℕ
  later_guards = drop 1 (part 512 t)

  -- the guards of the store
  abbrev pub guards : ℕ → ℕ
  guards = guard_at (part 256 t) (part 512 t)

  wss : length (part 256 t) ≡ 256
  wss = length-part 256 t (omega arith)

  wls : length (part 512 t) ≡ 256
  wls = length-part 512 t (omega arith)

  pub length_starts : length later_starts ≡ 255
  length_starts = length-drop 1 (part 256 t) ∙ ap (λ (x : ℕ). x - 1) wss

  pub length-guards : length later_guards ≡ 255
  length-guards = length-drop 1 (part 512 t) ∙ ap (λ (x : ℕ). x - 1) wls

  module _ (n : ℕ) (v : T (valid n t)) where
    abbrev one : ℕ
    one = get_or (part 512 t) 0 0

    rules : T (eqb (get_or (part 256 t) 0 0) 0 && (guard_holds n one && rising n 0 one later_starts later_guards))
    rules = subst T (intervals_begins n (part 256 t) (part 512 t) (omega (arith, wss)) (omega (arith, wls))) (valid-intervals n t w v)

    rise : Rising n 0 one later_starts later_guards
    rise = rising_is n 0 one later_starts later_guards (length_starts ∙ sym length-guards) (and_right (guard_holds n one) _ (and_right (eqb (get_or (part 256 t) 0 0) 0) _ rules))

    first_guard : guards 0 ≡ one
    unfolding guard_at
    first_guard = seek_before 0 (omega arith) rise

    pub standing : Stands guards 0 later_starts later_guards
    unfolding guard_at
    standing = rising_stands guards (omega arith) rise (λ x a b. rw (lt-ltb x 256 b))

    pub starts_begin : part 256 t ≡ 0 ∷ later_starts
    starts_begin = drop-cons (part 256 t) 0 0 (omega (arith, wss)) ∙ ap (λ (x : ℕ). x ∷ later_starts) (eqb→eq _ 0 (and_left (eqb (get_or (part 256 t) 0 0) 0) _ rules))

    pub guards_begin : part 512 t ≡ guards 0 ∷ later_guards
    guards_begin = drop-cons (part 512 t) 0 0 (omega (arith, wls)) ∙ ap (λ (x : ℕ). x ∷ later_guards) (sym first_guard)
