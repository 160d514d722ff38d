-- What the calls take, where it keeps its rule.
-- Assumes nothing.
use Rattle.std.specs.Prelude.{ℕ, Result, Ok, Err, cond, leb}
use Rattle.store.specs.declared.refusal.Refusal.{Refusal}
use Rattle.store.specs.declared.refusal.Refusal.TheVariants.{OutOfRange}
use Rattle.players.specs.Rules.{players}

-- a player, where the number is that of one; 28 where it is not
abbrev pub player_of : ℕ → Result ℕ Refusal
player_of p = cond (leb players p) (Err OutOfRange) (Ok p)
