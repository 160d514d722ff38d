-- The regions of cells that are passed are zeros, as the epochs are.
use mathlib.Core.Path.{◌≡◌}
use mathlib.Core.List.{◌++◌}
use Prim.Native.Nat.{◌+◌, ◌*◌}
use lib.ListN.{length, take, replicate}
use Rattle.players.specs.Table.{players_words}
use Rattle.players.proofs.FreshLaws.{before_epochs}
use Rattle.players.proofs.initial.lay_players.Given as goal

abbrev pub invariant-loop-k : goal.invariant-loop-k
invariant-loop-k l = (length l.players ≡ players_words) × (take (513 + l.k * 2048) l.players ≡ before_epochs ++ replicate (256 + l.k * 2048) 0)
