-- `steps::cells::live_guard` meets its contract where the guard is live.
-- Assumes nothing.
use mathlib.Core.Path.{sym, ap, ◌∙◌}
use mathlib.Core.Bool.{not}
use Prim.Native.Nat.{◌+◌}
use lib.ListN.{get_or}
use borrow.Author.Tests.{eq-eqb}
use Rattle.requests.proofs.Basics.{clash}
use Rattle.steps.proofs.WordLaws.{live_by}
use Rattle.steps.proofs.cells.live_guard.Goals as goal
use Rattle.steps.proofs.cells.live_guard.Goals.{then-guard-ne0, else-guard-ne0, then-players-e, else-players-e}

pub returns-then-is_live : goal.returns-then-is_live
returns-then-is_live c =
    let a = c.args in
    elim c.if-players-e.branch [
      | then-players-e w ↦ elim c.if-guard-ne0.branch [
        | then-guard-ne0 v ↦ rw c.cell.ensures.cell (live_by a.players.now a.player a.entry (rw c.cell.ensures.cell at v.if-guard-ne0.true) (rw (c.from-e.ensures, v.from.ensures) at (sym v.value-is ∙ w.if-players-e.true)) (rw (c.from-e.ensures, c.cell.ensures.cell) at (sym w.is_live-is ∙ c.if-is_live.true)))
        | else-guard-ne0 v ↦ absurd (clash w.if-players-e.true (v.value-is ∙ ap not (eq-eqb (get_or a.players.now (513 + c.cell.result) 0) 0 v.if-guard-ne0.false)))
      ]
      | else-players-e w ↦ absurd (clash c.if-is_live.true (w.is_live-is ∙ w.if-players-e.false))
    ]
