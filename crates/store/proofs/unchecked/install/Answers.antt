use Rattle.std.proofs.Common.{rules, ◌≡◌, ◌∙◌, sym}
use Rattle.std.specs.Prelude.{Err}
use Rattle.store.specs.Table.{part}
use Rattle.store.specs.Words.{install_words}
use Rattle.store.proofs.CallLaws.{tested_whole, install_bad, install_across, install_set}
use Rattle.store.proofs.unchecked.install.Goals as goal

pub returns-in_err-entries : goal.returns-in_err-entries
returns-in_err-entries c =
    let a = c.args in
    let e : c.from_residual.result ≡ Err c.in_err-entries.field-0.0 = search rules in
    rw e (tested_whole (install_words a.range a.guard) _ c.in-Some.store.now c.in-Some.ensures.cases _ (install_bad c.in-Some.store.now a.range a.guard _ c.in_err-entries.ensures))

pub returns-then-not-one_tablet : goal.returns-then-not-one_tablet
unfolding part
returns-then-not-one_tablet c =
    let a = c.args in
    tested_whole (install_words a.range a.guard) _ c.in-Some.store.now c.in-Some.ensures.cases _
    (install_across c.in-Some.store.now a.range a.guard c.in_ok-entries.entries c.in_ok-entries.ensures (sym (rw c.boundaries.ensures at c.one_tablet.ensures) ∙ c.if-not-one_tablet.true))

pub returns : goal.returns
unfolding part
returns c =
    let a = c.args in
    tested_whole (install_words a.range a.guard) _ c.in-Some.store.now c.in-Some.ensures.cases _
    (install_set c.in-Some.store.now a.range a.guard c.in_ok-entries.entries c.in_ok-entries.ensures (sym (rw c.boundaries.ensures at c.one_tablet.ensures) ∙ c.if-not-one_tablet.false) _ c.set_over.ensures)
