-- `steps::responding::respond_to` meets its contract: a case for each kind.
-- Assumes nothing.
use mathlib.Core.Path.{sym, ◌∙◌}
use Rattle.steps.proofs.AnswerLaws.{no_player}
use Rattle.steps.proofs.RespondLaws.{load_responds, by_guard_request, by_read, by_write}
use Rattle.steps.proofs.responding.respond_to.Goals as goal

pub returns-in_default : goal.returns-in_default
returns-in_default c =
    let a = c.args in
    load_responds a.r (no_player a.r.player _ (sym c.try_from.ensures ∙ c.in_default.is)).0 a.players.now _ c.write_reply.ensures

pub returns-then-r-eq-GUARD_REQUEST : goal.returns-then-r-eq-GUARD_REQUEST
returns-then-r-eq-GUARD_REQUEST c =
    let a = c.args in
    by_guard_request a.r a.players.now _ _ c.if-r-eq-GUARD_REQUEST.true c.respond_guard_request.ensures

pub returns-then-r-eq-READ : goal.returns-then-r-eq-READ
returns-then-r-eq-READ c =
    let a = c.args in
    by_read a.r a.players.now _ _ c.if-r-eq-GUARD_REQUEST.false c.if-r-eq-READ.true c.respond_read.ensures

pub returns : goal.returns
returns c =
    let a = c.args in
    by_write a.r a.players.now _ _ c.if-r-eq-GUARD_REQUEST.false c.if-r-eq-READ.false c.respond_write.ensures
