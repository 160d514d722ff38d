-- What writing bytes to the start of a lent buffer does. Quoted words are document 01's.
-- Assumes nothing.
use Rattle.std.specs.Prelude.{cond, List, ◌++◌, ℕ, length, drop, ltb}
use Rattle.store.specs.declared.Reply.{Reply}
use Rattle.players.specs.Replies.{reply, refusal}

-- a reply, and the buffer after it
pub record Wrote : Type 0 where
  pub replied : Reply
  pub buffer : List ℕ

abbrev pub wrote : Reply → List ℕ → Wrote
wrote r out = record { replied = r; buffer = out }

-- "a buffer shorter than the record to be written"
abbrev pub buffer_short : ℕ
buffer_short = 36

-- the bytes stand first and what follows is kept, and the reply is 0, their number, 0; or the buffer is too short, and is kept
abbrev pub written : List ℕ → List ℕ → Wrote
written bytes out =
    cond (ltb (length out) (length bytes)) (wrote (refusal buffer_short) out)
    (wrote (reply 0 (length bytes) 0) (bytes ++ drop (length bytes) out))
