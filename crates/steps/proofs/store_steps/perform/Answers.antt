-- `steps::store_steps::perform` meets its contract.
-- Assumes nothing.
use native.Mathlib.Omega.{arith}
use mathlib.Core.Path.{ap, ◌∙◌}
use Rattle.store.specs.declared.Reply.{Reply}
use Rattle.store.specs.Calls.{done}
use Rattle.store.proofs.WordLaws.{install_refines, read_refines, commit_refines}
use Rattle.steps.proofs.StoreStepLaws.{perform_guard_request, perform_read, perform_write}
use Rattle.steps.proofs.store_steps.perform.Goals as goal

pub returns-then-r-eq-GUARD_REQUEST : goal.returns-then-r-eq-GUARD_REQUEST
returns-then-r-eq-GUARD_REQUEST c =
    perform_guard_request c.args.r c.args.store.now _ _ c.if-r-eq-GUARD_REQUEST.true (install_refines _ _ (ap (λ (x : Reply). done x c.install.new.store) c.from.ensures ∙ c.install.ensures))

pub returns-then-r-eq-READ : goal.returns-then-r-eq-READ
returns-then-r-eq-READ c =
    perform_read c.args.r c.args.store.now _ _ c.if-r-eq-GUARD_REQUEST.false c.if-r-eq-READ.true (read_refines c.args.r.low (omega arith) (ap (λ (x : Reply). done x c.args.store.now) c.from-then-r-eq-READ.ensures ∙ c.read.ensures))

pub returns : goal.returns
returns c =
    perform_write c.args.r c.args.store.now _ _ c.if-r-eq-GUARD_REQUEST.false c.if-r-eq-READ.false (let r = c.args.r in commit_refines r.low (omega arith) r.value r.serial r.guard (ap (λ (x : Reply). done x c.commit.new.store) c.from-2.ensures ∙ c.commit.ensures))
