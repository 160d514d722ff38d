use Rattle.std.proofs.Common.{arith, sym, ◌∙◌}
use Rattle.store.specs.Calls.{commit}
use Rattle.store.proofs.CallLaws.{wrong_serial, good_serial}
use Rattle.store.proofs.WordLaws.{commit_refines}
use Rattle.store.proofs.write.Goals as goal

pub returns-then-bad_serial : goal.returns-then-bad_serial
returns-then-bad_serial c =
    let a = c.args in
    wrong_serial a.store.now c.in_ok-check.ensures (commit a.entry a.value a.serial a.guard) a.serial (sym c.bad_serial.ensures ∙ c.if-bad_serial.true)

pub returns : goal.returns
returns c =
    let a = c.args in
    good_serial a.store.now c.in_ok-check.ensures (commit a.entry a.value a.serial a.guard) a.serial (sym c.bad_serial.ensures ∙ c.if-bad_serial.false) _ _ (commit_refines a.entry (omega arith) a.value a.serial a.guard c.commit.ensures)
