-- The decoder's answer, by the numbers of docs/RULES.md.
-- Assumes nothing.
use Rattle.std.specs.Prelude.{ℕ, Result, Ok, Err}
use Rattle.store.specs.declared.refusal.Refusal.{Refusal}
use Rattle.store.specs.Refusals.{number_of}
use Rattle.players.specs.declared.Step.{Step}
use Rattle.session.specs.declared.records.Record.{Record as StepRecord}

-- a record, with the step that it stands for and its length in bytes, or the number of a refusal
pub data Decoded : Type 0 where
  Record : Step → ℕ → Decoded
  Refused : ℕ → Decoded

abbrev pub decoded_of : Result StepRecord Refusal → Decoded
decoded_of (Ok r) = Record r.step r.length
decoded_of (Err e) = Refused (number_of e)
