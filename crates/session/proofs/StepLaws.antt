-- A step that is read has the kind and the fields that stand in the bytes, and its entry is a byte.
-- Assumes nothing.
use mathlib.Core.Path.{◌≡◌}
use mathlib.Core.Bool.{Bool, true, false, cond}
use mathlib.Core.List.{List, [], ◌∷◌}
use Prim.Native.Nat.{ℕ, suc, ◌+◌, ◌/◌, ◌%◌, ◌≤◌, ◌<◌}
use native.Mathlib.Omega.{arith}
use lib.Dec.{lit<}
use lib.ListN.{get_or, drop}
use borrow.Author.Tests.{eq-eqb}
use Rattle.store.specs.declared.Range.{Range}
use Rattle.players.specs.declared.Step.{Step}
use Rattle.players.specs.Kinds.{stands, map_of, in_force, kind_and_fields, kind, step_of, spread, Fits}
use Rattle.players.proofs.KindLaws.{kind_map, fields_made, kind_made, fits_by}
use Rattle.session.specs.Layout.{widths, fields}
use Rattle.session.specs.Records.{kind_at, Bytes}
use Rattle.session.proofs.FieldLaws.{count_fields}

-- a kind that is none before n is none before n + 1
pub beyond : (n k : ℕ) → n ≤ k → (k ≡ n → ⊥) → suc n ≤ k
beyond n k h e = omega arith

-- a step is known by its fields, a range by its ends
pub by_range : (f : Range → Step) (r : Range) {lo hi : ℕ} → r.low ≡ lo → r.high ≡ hi → f r ≡ f (record { low = lo; high = hi })
by_range f r a b = rw (← a, ← b)

-- ---- the third of the numbers that are read is a byte

-- the fields of the bits from the second and from the third on, and numbers spread over them, by whether these stand
module _ (m : ℕ) (s : List ℕ) where
  abbrev rest : ℕ
  rest = m / 2 / 2 / 2

  abbrev from_third : Bool → ℕ → List ℕ
  from_third c at = cond c (get_or s at 0 ∷ fields (2 ∷ 4 ∷ 4 ∷ []) rest s (at + 1)) (fields (2 ∷ 4 ∷ 4 ∷ []) rest s at)

  abbrev from_second : Bool → Bool → ℕ → List ℕ
  from_second b c at = cond b (get_or s at 0 ∷ from_third c (at + 1)) (from_third c at)

  abbrev spread_third : Bool → List ℕ → List ℕ
  spread_third c vs = cond c (get_or vs 0 0 ∷ spread 3 rest (drop 1 vs)) (0 ∷ spread 3 rest vs)

  abbrev spread_second : Bool → Bool → List ℕ → List ℕ
  spread_second b c vs = cond b (get_or vs 0 0 ∷ spread_third c (drop 1 vs)) (0 ∷ spread_third c vs)

  third_byte : Bytes s → get_or (spread 6 m (fields widths m s 1)) 2 0 < 256
  unfolding Bytes spread fields
  third_byte byte = by_bits (stands m) (stands (m / 2)) (stands (m / 2 / 2))
    where
      by_bits : (a b c : Bool) → (
          let vs = cond a (get_or s 1 0 ∷ from_second b c (1 + 1)) (from_second b c 1) in
          get_or (cond a (get_or vs 0 0 ∷ spread_second b c (drop 1 vs)) (0 ∷ spread_second b c vs)) 2 0 < 256
          )
      by_bits true true true = byte 3
      by_bits true false true = byte 2
      by_bits false true true = byte 2
      by_bits false false true = byte 1
      by_bits true true false = lit< tt
      by_bits true false false = lit< tt
      by_bits false true false = lit< tt
      by_bits false false false = lit< tt

-- ---- the step

-- the step of a kind has this kind, and the fields that were read
pub record Reads (s : List ℕ) (k : ℕ) : Type 0 where
  pub kinds : kind (step_of k (fields widths (map_of k) s 1)) ≡ k
  pub whole : kind_and_fields (step_of k (fields widths (map_of k) s 1)) ≡ fields widths (map_of k) s 1

module _ (s : List ℕ) (k : ℕ) (force : in_force k ≡ true) (is : kind_at s ≡ k) where
  abbrev vs : List ℕ
  vs = fields widths (map_of k) s 1

  first : get_or vs 0 0 ≡ k
  unfolding fields
  first = rw (eq-eqb (map_of k % 2) 1 (kind_map k force).odd) is

  pub reads : Reads s k
  reads =
      let n = count_fields widths (map_of k) s 1 in
      record { kinds = kind_made k force vs n first; whole = fields_made k force vs n first }

  -- its entry is a byte
  pub fits_read : Bytes s → Fits (step_of k vs)
  fits_read b = fits_by (step_of k vs) (rw (reads.kinds, reads.whole) (third_byte (map_of k) s b))
