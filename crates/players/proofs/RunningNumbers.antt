-- The running numbers of cells: which player and entry each stands for, without a division. A pass over the cells begins at the first pair,
-- and goes on to the next entry or, past a row's end, over to the next player.
-- Assumes nothing.
use mathlib.Core.Path.{◌≡◌, refl}
use Prim.Native.Nat.{ℕ, ◌+◌, ◌*◌, ◌<◌}
use native.Mathlib.Omega.{arith}
use Rattle.players.specs.Table.{StandsFor}

-- a running number stands for one pair: that of which it is put together
module _ (i p e : ℕ) where
  pub stands_number : StandsFor i p e → i ≡ p * 256 + e
  stands_number s = omega arith

  pub stands_entry : StandsFor i p e → e < 256
  stands_entry s = omega arith

  pub stands_only : e < 256 → i ≡ p * 256 + e → StandsFor i p e
  stands_only h n = record { player = omega arith; entry = omega arith }

pub stands_first : StandsFor 0 0 0
stands_first = record { player = refl; entry = refl }

module _ (i p e : ℕ) (s : StandsFor i p e) where
  -- the next entry of the same player
  pub stands_along : (e + 1 ≡ 256 → ⊥) → StandsFor (i + 1) p (e + 1)
  stands_along h =
      let n : i ≡ p * 256 + e = stands_number i p e s in
      let k : e < 256 = stands_entry i p e s in
      stands_only (i + 1) p (e + 1) (omega arith) (omega arith)

  -- the first entry of the next player
  pub stands_over : e + 1 ≡ 256 → StandsFor (i + 1) (p + 1) 0
  stands_over h =
      let n : i ≡ p * 256 + e = stands_number i p e s in
      stands_only (i + 1) (p + 1) 0 (omega arith) (omega arith)
