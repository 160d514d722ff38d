use mathlib.Core.Path.{sym, ◌∙◌}
use Rattle.steps.proofs.WordLaws.{all_stop, all_more, all_end}
use Rattle.steps.proofs.cells.owns_all.Goals as goal

pub loop-e-init : goal.loop-e-init
loop-e-init c = rw (c.low-e.ensures.low, c.high-e-end.ensures.high)

pub returns-then-players-e : goal.returns-then-players-e
returns-then-players-e c =
    let a = c.args in
    sym (all_stop a.player a.players.now c.loop-e.e c.high-e-end.result c.loop-e-test.true (rw c.from.ensures at c.if-players-e.true)) ∙ c.loop-e.invariant

pub loop-e-preserved : goal.loop-e-preserved
loop-e-preserved c =
    let a = c.args in
    sym (all_more a.player a.players.now c.loop-e.e c.high-e-end.result c.loop-e-test.true (rw c.from.ensures at c.if-players-e.false)) ∙ c.loop-e.invariant

pub returns : goal.returns
returns c =
    let a = c.args in
    sym (all_end a.player a.players.now c.loop-e.e c.high-e-end.result c.loop-e-test.false) ∙ c.loop-e.invariant
