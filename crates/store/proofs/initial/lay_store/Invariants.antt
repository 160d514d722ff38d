use mathlib.Core.Path.{◌≡◌}
use Prim.Native.Nat.{◌*◌}
use lib.ListN.{length, take, replicate}
use Rattle.store.proofs.initial.lay_store.Given as goal

-- the columns passed are zeros
abbrev pub invariant-loop-column : goal.invariant-loop-column
invariant-loop-column l = (length l.store ≡ 1280) × (take (l.column * 256) l.store ≡ replicate (l.column * 256) 0)
