-- `steps::store_steps::find_interval` meets its contract.
-- Assumes nothing.
use mathlib.Core.Path.{sym, ap, ◌∙◌}
use native.Mathlib.Omega.{arith}
use Rattle.store.specs.Answers.{interval_reply}
use Rattle.store.proofs.CallLaws.{interval_given}
use Rattle.steps.proofs.StoreStepLaws.{find_shifts}
use Rattle.steps.proofs.store_steps.find_interval.Goals as goal

pub returns-in_err-found : goal.returns-in_err-found
returns-in_err-found c =
    absurd (interval_given c.args.store.now c.told-store c.args.entry _ (ap interval_reply (sym c.in_err-found.was) ∙ c.find_interval.ensures))

pub returns : goal.returns
returns c =
    find_shifts c.args.store.now c.told-store c.args.entry (omega arith) _ (ap interval_reply (sym c.in_ok-found.was) ∙ c.find_interval.ensures)
