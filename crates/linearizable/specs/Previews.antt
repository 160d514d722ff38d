-- What calls in any order give, with previews among them, and the same calls without the previews. Quoted words are document 02's, §4.
-- Assumes nothing.
use Rattle.std.specs.Prelude.{◌≡◌, Bool, true, false, cond, List, [], ◌∷◌, ℕ, ◌≤◌}
use Rattle.store.specs.declared.Reply.{Reply}
use Rattle.players.specs.Played.{Tables, taken}
use Rattle.session.specs.Reports.{Report}
use Rattle.session.specs.Fields.{six}
use Rattle.session.specs.Runs.{preview_records}
use Rattle.steps.specs.RunCalls.{ran}
use Rattle.steps.specs.Previews.{previewed, previewed_run}
use Rattle.famdrize.specs.Calls.{stepped, stepped_preview}
use Rattle.linearizable.specs.Calls.{Call, a_step, exported_step, a_run, a_preview, exported_preview, a_run_preview, left_by, after_all}

abbrev pub is_preview : Call → Bool
is_preview (a_step x) = false
is_preview (exported_step k p e h v n) = false
is_preview (a_run session budget list) = false
is_preview (a_preview x) = true
is_preview (exported_preview k p e h v n) = true
is_preview (a_run_preview session budget list) = true

-- the calls that are no previews
unfoldable pub without_previews : List Call → List Call
without_previews [] = []
without_previews (c ∷ cs) = cond (is_preview c) (without_previews cs) (c ∷ without_previews cs)

-- what a call gives: a reply, or a report and the list after it
pub data Given : Type 0 where
  a_reply : Reply → Given
  a_report : Report → List ℕ → Given

abbrev pub given : Tables → Call → Given
given u (a_step x) = a_reply (taken x u.store u.players).reply
given u (exported_step k p e h v n) = a_reply (stepped (six k p e h v n) u.store u.players).reply
given u (a_run session budget list) = let d = ran u.store u.players session budget list in a_report d.report d.list
given u (a_preview x) = a_reply (previewed x u.store u.players)
given u (exported_preview k p e h v n) = a_reply (stepped_preview (six k p e h v n) u.store u.players)
given u (a_run_preview session budget list) = let p = previewed_run u.store u.players session budget list in a_report p.report p.list

-- what all calls but the previews give
unfoldable pub given_without : Tables → List Call → List Given
given_without u [] = []
given_without u (c ∷ cs) = cond (is_preview c) (given_without (left_by u c) cs) (given u c ∷ given_without (left_by u c) cs)

-- "alters nothing": with the previews taken out, all other calls give the same, and the tables are the same after them
abbrev pub PreviewsUnseen : Tables → List Call → Type 0
PreviewsUnseen u cs = (given_without u cs ≡ given_without u (without_previews cs)) × (after_all u cs ≡ after_all u (without_previews cs))

-- ---- a preview of a call

abbrev pub preview_of : Call → Call
preview_of (a_step x) = a_preview x
preview_of (exported_step k p e h v n) = exported_preview k p e h v n
preview_of (a_run session budget list) = a_run_preview session budget list
preview_of (a_preview x) = a_preview x
preview_of (exported_preview k p e h v n) = exported_preview k p e h v n
preview_of (a_run_preview session budget list) = a_run_preview session budget list

-- a run's budget is not above the one that its preview counts
abbrev pub Short : Call → Type 0
Short (a_step x) = Unit {0}
Short (exported_step k p e h v n) = Unit {0}
Short (a_run session budget list) = budget ≤ preview_records
Short (a_preview x) = Unit {0}
Short (exported_preview k p e h v n) = Unit {0}
Short (a_run_preview session budget list) = Unit {0}

-- "gives that reply": whatever previews come between, the call gives what its preview gave; the call may be a preview itself
abbrev pub GivesPreviewed : Tables → Call → Type 0
GivesPreviewed u c = Short c → (ps : List Call) → without_previews ps ≡ [] → given (after_all u ps) c ≡ given u (preview_of c)
