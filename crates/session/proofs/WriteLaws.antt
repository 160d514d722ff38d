-- What a written part says of the buffer.
-- Assumes nothing.
use mathlib.Core.Path.{◌≡◌, ◌∙◌, sym, ap}
use mathlib.Core.List.{List}
use Prim.Native.Nat.{ℕ, ◌≤◌}
use native.Mathlib.Omega.{arith}
use lib.ListN.{length, take, length-take}

-- a whole number of elements can be taken
pub take_whole : (n : ℕ) (l bytes : List ℕ) → take n l ≡ bytes → n ≡ length bytes → n ≤ length l
take_whole n l bytes e h = let z = sym (length-take n l) ∙ ap length e in omega arith
