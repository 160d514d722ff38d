use mathlib.Core.Path.{sym, ap, ◌∙◌}
use Prim.Native.Nat.{ℕ, ◌*◌}
use native.Mathlib.Nat.{add-zero}
use Rattle.steps.specs.InnerWords.{dropped}
use Rattle.steps.proofs.WordLaws.{drop_more, drop_end}
use Rattle.steps.proofs.cells.drop_guard.Goals as goal

pub loop-k-init : goal.loop-k-init
loop-k-init c =
    let a = c.args in
    ap (λ (i : ℕ). dropped a.guard i 256 a.players.now) (add-zero (a.player * 256))

pub loop-k-preserved : goal.loop-k-preserved
loop-k-preserved c =
    sym (drop_more _ c.loop-k.players _ c.loop-k.k c.loop-k-test.true _ (rw c.row-low.ensures.row at c.drop_four.ensures)) ∙ c.loop-k.invariant

pub returns : goal.returns
returns c = sym (drop_end _ c.loop-k.players _ c.loop-k.k c.loop-k-test.false) ∙ c.loop-k.invariant
