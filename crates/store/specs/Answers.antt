-- What the calls answer: each gives something or is refused. Its reply is a code and two numbers.
-- Assumes nothing.
use Rattle.std.specs.Prelude.{ℕ, Result, Ok, Err, cond}
use Rattle.store.specs.Model.{bad_range}
use Rattle.store.specs.Calls.{reply, IntervalReply, guard_interval}
use Rattle.store.specs.Refusals.{number_of}
use Rattle.store.specs.declared.Reply.{Reply}
use Rattle.store.specs.declared.Range.{Range}
use Rattle.store.specs.declared.Interval.{Interval}
use Rattle.store.specs.declared.outcomes.Installed.{Installed}
use Rattle.store.specs.declared.outcomes.Installed.TheVariants.{Set, LayoutChanged}
use Rattle.store.specs.declared.outcomes.Written.{Written}
use Rattle.store.specs.declared.outcomes.Written.TheVariants.{Committed, Rejected}
use Rattle.store.specs.declared.outcomes.Stored.{Stored}
use Rattle.store.specs.declared.refusal.Refusal.{Refusal}
use Rattle.store.specs.declared.refusal.Refusal.TheVariants.{OutOfRange}

-- a range, where it keeps its rule
abbrev pub entries_of : Range → Result Range Refusal
entries_of r = cond (bad_range r) (Err OutOfRange) (Ok r)

-- ---- the reply of what a call gives

-- a call that gives nothing
abbrev pub nothing : Unit {0} → Reply
nothing _ = reply 0 0 0

-- a call that gives one number
abbrev pub of_count : ℕ → Reply
of_count n = reply 0 n 0

-- 1 where the guard is set, 2 where the layout changed
abbrev pub of_installed : Installed → Reply
of_installed Set = reply 0 1 0
of_installed LayoutChanged = reply 0 2 0

-- 1 where the write is committed, 2 where it is turned back
abbrev pub of_written : Written → Reply
of_written Committed = reply 0 1 0
of_written Rejected = reply 0 2 0

-- the version and the value
abbrev pub of_stored : Stored → Reply
of_stored s = reply 0 s.version s.value

-- ---- the reply

-- that of what the call gives; a refusal is its number and two zeros
abbrev pub as_reply : {A : Type 0} → (A → Reply) → Result A Refusal → Reply
as_reply replied (Ok x) = replied x
as_reply replied (Err r) = reply (number_of r) 0 0

-- the same of the call that finds an interval
abbrev pub interval_reply : Result Interval Refusal → IntervalReply
interval_reply (Ok x) = guard_interval 0 x.guard x.first x.last
interval_reply (Err r) = guard_interval (number_of r) 0 0 0
