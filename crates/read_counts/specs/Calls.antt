-- The claim about the tables themselves: any two lent tables for which `players::check` replies 0, and calls on them, which do what their contracts say, word for
-- word: one run over session bytes; any calls in any order. Quoted words are document 02's, §7.
-- Assumes nothing.
use Rattle.std.specs.Prelude.{◌≡◌, List, ℕ, ◌+◌, ◌≤◌, length}
use Rattle.counters.specs.declared.Counts.{Counts}
use Rattle.counters.specs.Model.{most, none}
use Rattle.counters.specs.Region.{counts_of}
use Rattle.players.specs.Table.{counter_words}
use Rattle.players.specs.Played.{Tables, Keeps, held_in}
use Rattle.session.specs.Records.{Bytes}
use Rattle.session.specs.Runs.{steps, whole_places}
use Rattle.steps.specs.RunCalls.{ran, replies_from}
use Rattle.linearizable.specs.Calls.{Call, AllHanded, all_steps, all_replies, after_all}
use Rattle.read_counts.specs.Claim.{Grew, Counted}

-- the two words of player p among the read counters of a players' table
abbrev pub counts_in : List ℕ → ℕ → Counts
counts_in t p = counts_of (counter_words t) p

-- ‘After a run begun with zero counts’ of player p, whatever the bytes, the budget and the list: the replies are those that stand in its list, as many as it reports.
-- A refused run takes no step, and leaves zero counts
abbrev pub RunCounted : Tables → List ℕ → ℕ → List ℕ → ℕ → Type 0
RunCounted u session budget list p =
    let d = ran u.store u.players session budget list in
    Keeps u → Bytes session → counts_in u.players p ≡ none
    → Counted p (held_in u) (steps session budget (whole_places list)) (replies_from d.list 0 d.report.records) (counts_in d.players p)

-- after any calls in any order, single steps, exported ones, runs, with previews among them, from whatever counts, where these and the number of steps are
-- together not above the limit
abbrev pub CallsGrow : Tables → List Call → ℕ → Type 0
CallsGrow u cs p =
    let c = counts_in u.players p in
    Keeps u → AllHanded cs → c.answered + length (all_steps cs) ≤ most
    → Grew p (held_in u) (all_steps cs) (all_replies u cs) c (counts_in (after_all u cs).players p)
