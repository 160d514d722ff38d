-- What a run reports, by the numbers of docs/RULES.md.
-- Assumes nothing.
use Rattle.std.specs.Prelude.{ℕ}
use Rattle.store.specs.Refusals.{number_of}
use Rattle.session.specs.declared.Stop.{Stop}
use Rattle.session.specs.declared.Stop.TheVariants.{AtEnd, Spent, Refused}
use Rattle.session.specs.declared.Report.{Report as StopReport}

-- why a run stopped, the number of records taken, and the byte place just after them
pub record Report : Type 0 where
  pub why : ℕ
  pub records : ℕ
  pub place : ℕ

-- "Why: 0 at the end, else 9 when the budget or the list's whole places are spent, else the record's refusal"
abbrev pub why_of : Stop → ℕ
why_of AtEnd = 0
why_of Spent = 9
why_of (Refused e) = number_of e

abbrev pub reported : StopReport → Report
reported r = record { why = why_of r.why; records = r.records; place = r.place }
