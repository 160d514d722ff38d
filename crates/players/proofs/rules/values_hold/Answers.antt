-- `players::rules::values_hold` meets its contract.
-- Assumes nothing.
use mathlib.Core.Path.{refl, sym, ◌∙◌}
use native.Mathlib.Omega.{arith}
use lib.Dec.{eqb}
use Rattle.players.proofs.RunningNumbers.{stands_first, stands_along, stands_over}
use Rattle.players.proofs.CheckLaws.{values_turn, values_end}
use Rattle.players.proofs.rules.values_hold.Goals.{then-entry-eq-ENTRIES, else-entry-eq-ENTRIES}
use Rattle.players.proofs.rules.values_hold.Goals as goal

pub loop-i-init : goal.loop-i-init
loop-i-init c = (stands_first, refl)

-- over to the next player, or along to the next entry
pub loop-i-preserved : goal.loop-i-preserved
loop-i-preserved c =
    let l = c.loop-i in
    let s = l.invariant.0 in
    let x = c.if-entry-eq-ENTRIES in (
      (elim x.branch [
        | then-entry-eq-ENTRIES w ↦ rw (w.player-is, w.entry-is) (stands_over l.i l.player l.entry s w.if-entry-eq-ENTRIES.true)
        | else-entry-eq-ENTRIES w ↦ rw (w.player-is, w.entry-is) (stands_along l.i l.player l.entry s w.if-entry-eq-ENTRIES.false)
      ]),
      l.invariant.1 ∙ values_turn c.args.players.now c.told-players l.i (omega (arith, c.loop-i-test.true)) l.player l.entry s l.flaws _ c.cell_flaw-flaws.ensures,
    )

pub returns : goal.returns
returns c =
    let l = c.loop-i in
    sym (l.invariant.1 ∙ values_end c.args.players.now c.told-players l.i (eqb l.flaws 0) c.loop-i-test.false)
