-- The running number stands for the player and the entry that are carried along; all cells keep their rule where no bit tells of those before, and those left keep it.
use Rattle.std.proofs.Common.{◌≡◌}
use Rattle.std.specs.Prelude.{◌&&◌, eqb}
use Rattle.players.specs.Table.{StandsFor}
use Rattle.players.proofs.CheckLaws.{rest_holds}
use Rattle.players.proofs.rules.values_hold.Given as goal

abbrev pub invariant-loop-i : goal.invariant-loop-i
invariant-loop-i l = StandsFor l.i l.player l.entry × (rest_holds l.players 0 ≡ (eqb l.flaws 0 && rest_holds l.players l.i))
