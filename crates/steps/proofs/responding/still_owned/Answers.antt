use mathlib.Core.Path.{sym, ◌∙◌}
use native.Mathlib.Omega.{arith}
use Rattle.steps.proofs.RespondLaws.{own_other, own_late, own_more, own_end}
use Rattle.steps.proofs.responding.still_owned.Goals as goal

pub loop-e-init : goal.loop-e-init
loop-e-init c = rw (c.low-e.ensures.low, c.high-e-end.ensures.high)

pub returns-then-players-e : goal.returns-then-players-e
returns-then-players-e c =
    let a = c.args in
    sym (own_other a.player a.serial a.players.now c.loop-e.e c.high-e-end.result c.loop-e-test.true (rw c.from.ensures at c.if-players-e.true)) ∙ c.loop-e.invariant

pub returns-then-players-e-2 : goal.returns-then-players-e-2
returns-then-players-e-2 c =
    let a = c.args in
    sym (own_late a.player a.serial a.players.now c.loop-e.e c.high-e-end.result c.loop-e-test.true (rw c.from.ensures at c.if-players-e.false) (omega arith)) ∙ c.loop-e.invariant

pub loop-e-preserved : goal.loop-e-preserved
loop-e-preserved c =
    let a = c.args in
    sym (own_more a.player a.serial a.players.now c.loop-e.e c.high-e-end.result c.loop-e-test.true (rw c.from.ensures at c.if-players-e.false) (omega arith)) ∙ c.loop-e.invariant

pub returns : goal.returns
returns c =
    let a = c.args in
    sym (own_end a.player a.serial a.players.now c.loop-e.e c.high-e-end.result c.loop-e-test.false) ∙ c.loop-e.invariant
