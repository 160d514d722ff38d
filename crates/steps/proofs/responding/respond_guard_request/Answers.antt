-- `steps::responding::respond_guard_request` meets its contract: a case at each return.
-- Assumes nothing.
use mathlib.Core.Path.{sym, ◌∙◌}
use Rattle.steps.proofs.AnswerLaws.{good_entries}
use Rattle.steps.proofs.RespondLaws.{guard_range, guard_lost, guard_layout, guard_granted}
use Rattle.steps.proofs.responding.respond_guard_request.Goals as goal

pub returns-in_default : goal.returns-in_default
returns-in_default c =
    let a = c.args in
    let r = a.asked.request in
    guard_range r a.asked.known c.requires a.players.now _ (sym c.try_from.ensures ∙ c.in_default.is)

pub returns-then-not-still_owned : goal.returns-then-not-still_owned
returns-then-not-still_owned c =
    let a = c.args in
    let g = good_entries (record { low = a.asked.request.low; high = a.asked.request.high }) c.in-Ok.entries (sym c.try_from.ensures ∙ c.in-Ok.is) in
    guard_lost a.asked.request a.asked.known c.requires a.players.now _ (rw (g.0, ← a.asked.theirs) at c.still_owned.ensures) c.if-not-still_owned.true

pub returns-then-r-ne1 : goal.returns-then-r-ne1
returns-then-r-ne1 c =
    let a = c.args in
    let g = good_entries (record { low = a.asked.request.low; high = a.asked.request.high }) c.in-Ok.entries (sym c.try_from.ensures ∙ c.in-Ok.is) in
    guard_layout a.asked.request a.asked.known c.requires a.players.now _ (rw (g.0, ← a.asked.theirs) at c.still_owned.ensures) c.if-not-still_owned.false c.if-r-ne1.true

pub returns : goal.returns
returns c =
    let a = c.args in
    let g = good_entries (record { low = a.asked.request.low; high = a.asked.request.high }) c.in-Ok.entries (sym c.try_from.ensures ∙ c.in-Ok.is) in
    guard_granted a.asked.request a.asked.known c.requires a.players.now _ (rw (g.0, ← a.asked.theirs) at c.still_owned.ensures) c.if-not-still_owned.false c.if-r-ne1.false _ (rw (g.0, ← a.asked.theirs) at c.grant.ensures)
