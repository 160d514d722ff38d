-- `steps::running::run` meets its contract: what the tests have shown where records are taken.
-- Assumes nothing.
use mathlib.Core.Path.{◌∙◌, sym, ap}
use native.Mathlib.Omega.{arith}
use Rattle.store.specs.Answers.{nothing, as_reply}
use Rattle.steps.proofs.RanLaws.{ready, all_taken}
use Rattle.steps.proofs.running.run.Goals as goal

pub take_records-requires : goal.take_records-requires
take_records-requires c =
    let a = c.args in
    ready a.store.now a.players.now a.session.now a.budget a.replies.now (as_reply nothing c.check.result) c.check.ensures
    (ap (λ r. (as_reply nothing r).code) c.in_default.is) c.if-session-gt-LONGEST.false (sym c.marked.ensures ∙ c.if-not-marked.false) _ c.allowed-left.ensures (omega arith)

pub returns : goal.returns
returns c =
    let a = c.args in
    all_taken a.store.now a.players.now a.session.now a.budget a.replies.now (as_reply nothing c.check.result) c.check.ensures
    (ap (λ r. (as_reply nothing r).code) c.in_default.is) c.if-session-gt-LONGEST.false (sym c.marked.ensures ∙ c.if-not-marked.false) _ (rw c.allowed-left.ensures at c.take_records.ensures)
