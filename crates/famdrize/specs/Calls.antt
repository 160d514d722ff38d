-- What the exported calls do that no lower crate's definition says whole.
-- Assumes nothing.
use Rattle.std.specs.Prelude.{List, [], ◌∷◌, ℕ}
use Rattle.store.specs.declared.Reply.{Reply}
use Rattle.store.specs.Calls.{IntervalReply, guard_interval}
use Rattle.players.specs.declared.Step.{Step}
use Rattle.players.specs.Replies.{reply, refusal}
use Rattle.players.specs.Calls.{Done, left}
use Rattle.players.specs.Played.{taken}
use Rattle.session.specs.Decoded.{Decoded, Record, Refused}
use Rattle.session.specs.Records.{encode}
use Rattle.players.specs.Kinds.{numbers_of}
use Rattle.session.specs.Written.{Wrote, wrote, written}
use Rattle.session.specs.Reports.{Report}
use Rattle.session.specs.Runs.{report}
use Rattle.famdrize.specs.declared.Answer.{Answer}
use Rattle.famdrize.specs.declared.Ended.{Ended}
use Rattle.famdrize.specs.declared.GuardInterval.{GuardInterval}
use Rattle.famdrize.specs.declared.RecordFields.{RecordFields}
use Rattle.famdrize.specs.Fields.{stated, on_stated}

-- the reply that an answer is
abbrev pub reply_of : Answer → Reply
reply_of x = reply x.code x.a x.b

-- the answer of the store's call that finds an interval
abbrev pub interval_of : GuardInterval → IntervalReply
interval_of x = guard_interval x.code x.guard x.first x.last

-- the report that a run's end is
abbrev pub report_of : Ended → Report
report_of x = report x.why x.records x.place

-- the step of these numbers taken on the tables, or refused before they are looked at
abbrev pub stepped : List ℕ → List ℕ → List ℕ → Done
stepped vs st t = on_stated (stated vs) (λ x. taken x st t) (λ n. left (refusal n) st t)

-- document 02 §4, "gives that reply, for every kind and refusal": the reply that such a call gives
abbrev pub stepped_preview : List ℕ → List ℕ → List ℕ → Reply
stepped_preview vs st t = (stepped vs st t).reply

-- the step that such a call takes: none where the numbers stand for none
abbrev pub step_taken : List ℕ → List Step
step_taken vs = on_stated (stated vs) (λ x. x ∷ []) (λ n. [])

-- the eight numbers of what stands at a place of a session
abbrev pub eight : RecordFields → List ℕ
eight r = r.code ∷ r.length ∷ r.kind ∷ r.player ∷ r.entry ∷ r.high ∷ r.value ∷ r.serial ∷ []

-- those of the decoder's answer: 0, the record's length and the step's numbers, or the refusal's number and zeros
abbrev pub decoded : Decoded → List ℕ
decoded (Record x n) = 0 ∷ n ∷ numbers_of x
decoded (Refused n) = n ∷ 0 ∷ 0 ∷ 0 ∷ 0 ∷ 0 ∷ 0 ∷ 0 ∷ []

-- the record of the step of these numbers written to a buffer, or refused before it is looked at
abbrev pub recorded : List ℕ → List ℕ → Wrote
recorded vs out = on_stated (stated vs) (λ x. written (encode x) out) (λ n. wrote (refusal n) out)
