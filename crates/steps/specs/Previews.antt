-- What a preview of a step and one of a run give; the tables are lent to them for reading only. Quoted words are document 02's, §4.
-- Assumes nothing.
use Rattle.std.specs.Prelude.{List, ℕ}
use Rattle.store.specs.declared.Reply.{Reply}
use Rattle.players.specs.declared.Step.{Step}
use Rattle.players.specs.Played.{taken}
use Rattle.session.specs.Reports.{Report}
use Rattle.session.specs.Runs.{preview_budget}
use Rattle.steps.specs.RunCalls.{ran}

-- "A preview takes tables and a step, alters nothing and gives that reply, for every kind and refusal": the reply that a call of the step gives on
-- these tables
abbrev pub previewed : Step → List ℕ → List ℕ → Reply
previewed x st t = (taken x st t).reply

-- a report, and the list for replies after it
pub record RunPreview : Type 0 where
  pub report : Report
  pub list : List ℕ

abbrev pub run_preview : Report → List ℕ → RunPreview
run_preview r list = record { report = r; list = list }

-- "A run can be previewed likewise, with its report and replies, a budget above 16 counting as 16; only the list for replies is written": the report
-- and the list of a call of the run on these tables, with that budget
abbrev pub previewed_run : List ℕ → List ℕ → List ℕ → ℕ → List ℕ → RunPreview
previewed_run st t session budget list =
    let d = ran st t session (preview_budget budget) list in
    run_preview d.report d.list
