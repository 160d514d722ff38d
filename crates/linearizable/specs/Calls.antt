-- The claim about any calls in any order: single steps, runs over sessions and previews of both, from a program in Rattle or through the exported
-- calls, each on the tables that the last call left. The calls do what their contracts say, word for word. Quoted words are document 01's.
-- Assumes nothing.
use Rattle.std.specs.Prelude.{◌≡◌, true, List, [], ◌∷◌, ◌++◌, map, ℕ, ◌<◌}
use Rattle.store.specs.declared.Reply.{Reply}
use Rattle.players.specs.declared.Step.{Step}
use Rattle.players.specs.Calls.{Done, whole}
use Rattle.players.specs.Kinds.{Fits}
use Rattle.players.specs.Played.{Tables, tables, taken}
use Rattle.session.specs.Records.{Bytes}
use Rattle.session.specs.Runs.{steps, whole_places}
use Rattle.steps.specs.RunCalls.{ran, replies_from}
use Rattle.session.specs.Fields.{six}
use Rattle.famdrize.specs.Calls.{stepped, step_taken}
use Rattle.linearizable.specs.Claim.{LinearizableBy}
use Rattle.linearizable.specs.Tables.{store_in, freshened}

pub data Call : Type 0 where
  -- `steps::step`: the step
  a_step : Step → Call
  -- `famdrize_step`: kind, player, entry, high, value and serial
  exported_step : ℕ → ℕ → ℕ → ℕ → ℕ → ℕ → Call
  -- `steps::running::run`, and `famdrize_run`, which has the same contract: session, budget and list for replies
  a_run : List ℕ → ℕ → List ℕ → Call
  -- `steps::previews::preview`; `famdrize_preview`, by the same six numbers; `steps::previews::preview_run` and `famdrize_preview_run` (document 02 §4)
  a_preview : Step → Call
  exported_preview : ℕ → ℕ → ℕ → ℕ → ℕ → ℕ → Call
  a_run_preview : List ℕ → ℕ → List ℕ → Call

-- what a caller can hand over: entries of one byte, sessions of bytes. Of a preview nothing is asked
abbrev pub Handed : Call → Type 0
Handed (a_step x) = Fits x
Handed (exported_step kind player entry high value serial) = entry < 256
Handed (a_run session budget list) = Bytes session
Handed (a_preview x) = Unit {0}
Handed (exported_preview kind player entry high value serial) = Unit {0}
Handed (a_run_preview session budget list) = Unit {0}

abbrev pub AllHanded : List Call → Type 0
AllHanded [] = Unit {0}
AllHanded (c ∷ cs) = Handed c × AllHanded cs

-- the steps that a call takes: none where the numbers stand for no step (26, 27), or the run is refused; a preview takes none
abbrev pub steps_of : Call → List Step
steps_of (a_step x) = x ∷ []
steps_of (exported_step k p e h v n) = step_taken (six k p e h v n)
steps_of (a_run session budget list) = steps session budget (whole_places list)
steps_of (a_preview x) = []
steps_of (exported_preview k p e h v n) = []
steps_of (a_run_preview session budget list) = []

-- what a call leaves of two tables
abbrev pub left_of : Done → Tables
left_of d = tables d.store d.players

-- to a preview the tables are lent for reading only
abbrev pub left_by : Tables → Call → Tables
left_by u (a_step x) = left_of (taken x u.store u.players)
left_by u (exported_step k p e h v n) = left_of (stepped (six k p e h v n) u.store u.players)
left_by u (a_run session budget list) = let d = ran u.store u.players session budget list in tables d.store d.players
left_by u (a_preview x) = u
left_by u (exported_preview k p e h v n) = u
left_by u (a_run_preview session budget list) = u

-- the replies to its steps, as the call gives them: returned, or in the list's first places, as many as records are reported
abbrev pub replies_of : Tables → Call → List Reply
replies_of u (a_step x) = (taken x u.store u.players).reply ∷ []
replies_of u (exported_step k p e h v n) = map (λ x. (stepped (six k p e h v n) u.store u.players).reply) (step_taken (six k p e h v n))
replies_of u (a_run session budget list) = let d = ran u.store u.players session budget list in replies_from d.list 0 d.report.records
replies_of u (a_preview x) = []
replies_of u (exported_preview k p e h v n) = []
replies_of u (a_run_preview session budget list) = []

-- of all calls: "each getting the tables the last one left"
unfoldable pub all_steps : List Call → List Step
all_steps [] = []
all_steps (c ∷ cs) = steps_of c ++ all_steps cs

unfoldable pub all_replies : Tables → List Call → List Reply
all_replies u [] = []
all_replies u (c ∷ cs) = replies_of u c ++ all_replies (left_by u c) cs

unfoldable pub after_all : Tables → List Call → Tables
after_all u [] = u
after_all u (c ∷ cs) = after_all (left_by u c) cs

-- on any two tables of the right lengths, once they are made fresh
abbrev pub LinearizableCalls : List Call → Type 0
LinearizableCalls cs =
    AllHanded cs → (st t : List ℕ) → whole st t ≡ true → let u = freshened st t in LinearizableBy (all_steps cs) (all_replies u cs) (store_in (after_all u cs))
