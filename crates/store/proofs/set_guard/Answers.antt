use Rattle.std.proofs.Common.{sym, ◌∙◌}
use Rattle.store.specs.Calls.{install}
use Rattle.store.proofs.CallLaws.{wrong_serial, good_serial}
use Rattle.store.proofs.WordLaws.{install_refines}
use Rattle.store.proofs.set_guard.Goals as goal

pub returns-then-bad_serial : goal.returns-then-bad_serial
returns-then-bad_serial c =
    let a = c.args in
    wrong_serial a.store.now c.in_ok-check.ensures (install a.range a.serial) a.serial (sym c.bad_serial.ensures ∙ c.if-bad_serial.true)

pub returns : goal.returns
returns c =
    let a = c.args in
    good_serial a.store.now c.in_ok-check.ensures (install a.range a.serial) a.serial (sym c.bad_serial.ensures ∙ c.if-bad_serial.false) _ _ (install_refines a.range a.serial c.install.ensures)
