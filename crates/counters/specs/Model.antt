-- Share of reads from memory (document 02 §7): the counts of one player (document: tally), how a read is counted, and the share.
-- Assumes nothing.
use Rattle.std.specs.Prelude.{Bool, true, false, cond, ◌&&◌, ℕ, ◌+◌, ◌*◌, ◌/◌, ◌%◌, leb, eqb}
use Rattle.store.specs.declared.Reply.{Reply}
use Rattle.store.specs.Calls.{reply}
use Rattle.counters.specs.declared.Counts.{Counts}
use Rattle.counters.specs.declared.Share.{Share}

-- ‘above 4,000,000,000’: the largest count
abbrev pub most : ℕ
most = 4000000000

-- ‘answered reads and those answered from memory’
abbrev pub counts : ℕ → ℕ → Counts
counts answered hits = record { answered = answered; hits = hits }

-- ‘zero counts’
abbrev pub none : Counts
none = counts 0 0

-- 1 where a test holds
abbrev pub one_if : Bool → ℕ
one_if b = cond b 1 0

-- one more answered read, from memory or not; ‘A read that would carry a count above 4,000,000,000 leaves both counts as they were’
unfoldable pub counted : Counts → Bool → Counts
counted c hit =
    cond (leb (c.answered + 1) most && leb (c.hits + one_if hit) most) (counts (c.answered + 1) (c.hits + one_if hit)) c

-- by the code of a reply to the player: ‘answered reads equals its replies 2 and 3 to that player, and reads from memory its replies 2’
unfoldable pub counted_by : Counts → ℕ → Counts
counted_by c code = cond (eqb code 2) (counted c true) (cond (eqb code 3) (counted c false) c)

-- ‘A tally with more reads from memory than answered reads, or a count above that limit, is 22’
abbrev pub sound : Counts → Bool
sound c = leb c.hits c.answered && leb c.answered most

-- ‘code 0 with the quotient and remainder of 1,000 × reads from memory by answered reads’; ‘39 when the player has no answered read’
unfoldable pub share : Counts → Reply
share c =
    cond (eqb c.answered 0) (reply 39 0 0) (reply 0 (1000 * c.hits / c.answered) (1000 * c.hits % c.answered))

-- the reply that a share is
abbrev pub of_share : Share → Reply
of_share s = reply 0 s.thousandths s.rest
