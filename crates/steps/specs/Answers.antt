-- What a step answers, by the numbers of docs/RULES.md.
-- Assumes nothing.
use Rattle.std.specs.Prelude.{Result}
use Rattle.store.specs.declared.Reply.{Reply}
use Rattle.store.specs.declared.refusal.Refusal.{Refusal}
use Rattle.store.specs.Answers.{as_reply}
use Rattle.players.specs.Replies.{done, issued, cache_read, store_read, committed, rejected, granted, not_held, layout_changed, interval}
use Rattle.steps.specs.declared.answers.Given.{Given}
use Rattle.steps.specs.declared.answers.Given.TheVariants.{Done, Issued, CacheRead, StoreRead, Committed, Rejected, Granted, NotHeld, LayoutChanged, Interval}

-- the reply that is given
abbrev pub given : Given → Reply
given Done = done
given (Issued n) = issued n
given (CacheRead version value) = cache_read version value
given (StoreRead version value) = store_read version value
given (Committed n value) = committed n value
given (Rejected n) = rejected n
given (Granted n) = granted n
given (NotHeld n) = not_held n
given (LayoutChanged n) = layout_changed n
given (Interval first last) = interval first last

-- the reply of a step: what it gives, or a refusal
abbrev pub answered : Result Given Refusal → Reply
answered r = as_reply given r
