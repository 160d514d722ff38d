-- `steps::responding::remember` meets its contract: a case at each return.
-- Assumes nothing.
use Rattle.steps.proofs.RespondLaws.{remember_unguarded, remember_crossed, remember_dead, remember_live}
use Rattle.steps.proofs.responding.remember.Goals as goal

pub returns-then-guard-eq0 : goal.returns-then-guard-eq0
returns-then-guard-eq0 c =
    let a = c.args in
    remember_unguarded a.player a.entry a.guard a.overlapped a.version a.value a.players.now c.if-guard-eq0.true

pub returns-then-overlapped : goal.returns-then-overlapped
returns-then-overlapped c =
    let a = c.args in
    remember_crossed a.player a.entry a.guard a.overlapped a.version a.value a.players.now c.if-guard-eq0.false c.if-overlapped.true

pub returns-then-live_guard-guard : goal.returns-then-live_guard-guard
returns-then-live_guard-guard c =
    let a = c.args in
    remember_dead a.player a.entry a.guard a.overlapped a.version a.value a.players.now c.if-guard-eq0.false c.if-overlapped.false _ c.live_guard.ensures c.if-live_guard-guard.true

pub returns : goal.returns
returns c =
    let a = c.args in
    remember_live a.player a.entry a.guard a.overlapped a.version a.value a.players.now c.if-guard-eq0.false c.if-overlapped.false _ c.live_guard.ensures c.if-live_guard-guard.false _ (rw c.cell.ensures.cell at c.cache.ensures)
