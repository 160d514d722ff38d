-- `store::tablets::tablet_start` meets its contract.
-- Assumes nothing.
use Rattle.std.proofs.Common.{◌≡◌, ◌∙◌, sym, arith}
use Rattle.store.proofs.TabletLaws.{first_here, first_back, first_zero}
use Rattle.store.proofs.tablets.+tablet_start.Goals.{then-entry-eq0-via-then-entry-eq0, then-entry-eq0-via-else-entry-eq0+then-boundaries-entry-eq1}
use Rattle.store.proofs.tablets.+tablet_start.Goals as goal

pub returns-then-entry-eq0 : goal.returns-then-entry-eq0
returns-then-entry-eq0 n c =
    elim c.then-entry-eq0.branch [
      | then-entry-eq0-via-then-entry-eq0 w ↦ sym (first_zero _ _ (omega (arith, w.if-entry-eq0.true)))
      | then-entry-eq0-via-else-entry-eq0+then-boundaries-entry-eq1 w ↦ sym (first_here _ _ (omega (arith, w.if-entry-eq0.false)) w.if-boundaries-entry-eq1.true)
    ]

pub returns : goal.returns
returns n c = c.tablet_start.ensures ∙ sym (first_back _ _ (omega (arith, c.if-entry-eq0.false)) c.if-boundaries-entry-eq1.false)
