-- The document's cases, of steps, records and sessions, and document 02's. Each is a row of one list, and one theorem checks them all.
-- Assumes nothing.
use Rattle.std.specs.Prelude.{◌≡◌, refl, List, [], ◌∷◌, ◌++◌, map, ℕ, zero, suc}
use Rattle.store.specs.Model.{unbroken, tablet_first, tablet_end, interval_first, interval_last}
use Rattle.store.specs.declared.Reply.{Reply}
use Rattle.players.specs.declared.Step.{Step}
use Rattle.players.specs.declared.Step.TheVariants.{FindInterval, Load}
use Rattle.players.specs.Replies.{reply, done, issued, committed, rejected, interval, refusal}
use Rattle.players.specs.Rules.{State, replies, fresh}
use Rattle.players.specs.Cases.{session as session_steps, session_replies, cases as step_cases, Case as StepCase}
use Rattle.players.specs.Kinds.{map_of, step_of}
use Rattle.session.specs.Layout.{fields_length, record_length, fields, field_bytes}
use Rattle.session.specs.Decoded.{Record}
use Rattle.session.specs.Records.{cut_short, unknown_field, unknown_kind, wrong_fields, tested, decode, numbers, encode, encode_all}
use Rattle.session.specs.Mark.{mark, begins}
use Rattle.session.specs.Runs.{Run, at_end, spent, no_mark, run, run_from, preview_budget}

-- what is given: steps from a state; the bytes of a record; a session, with a budget and so many list places, that is run; the same, previewed
pub data Given : Type 0 where
  steps : State → List Step → Given
  record_bytes : List ℕ → Given
  session : List ℕ → ℕ → ℕ → Given
  preview : List ℕ → ℕ → ℕ → Given

-- a row: what is given, and its replies
pub record Case : Type 0 where
  pub given : Given
  pub expected : List Reply

abbrev case : Given → List Reply → Case
case g rs = record { given = g; expected = rs }

-- the replies of a run, and last its report
abbrev told : Run → List Reply
told r = r.replies ++ (reply r.report.why r.report.records r.report.place ∷ [])

-- the replies to steps; the number of a record, as a refusal; what is told of a run from the fresh state, and of its preview
abbrev pub found : Given → List Reply
found (steps s xs) = replies s xs
found (record_bytes s) = refusal (numbers (decode s)).code ∷ []
found (session s budget places) = told (run fresh s budget places)
found (preview s budget places) = told (run fresh s (preview_budget budget) places)

-- ---- sessions

-- the document's session
abbrev pub worked_session : List ℕ
worked_session =
    0x52 ∷ 0x53 ∷ 0x4C ∷ 0x31
    ∷ 0x0F ∷ 0x01 ∷ 0x00 ∷ 0x28 ∷ 0x3C ∷ 0x00
    ∷ 0x0F ∷ 0x03 ∷ 0x00 ∷ 0x28 ∷ 0x3C ∷ 0x00
    ∷ 0x21 ∷ 0x06 ∷ 0x02 ∷ 0x00 ∷ 0x00 ∷ 0x00
    ∷ 0x21 ∷ 0x07 ∷ 0x02 ∷ 0x00 ∷ 0x00 ∷ 0x00
    ∷ 0x17 ∷ 0x05 ∷ 0x00 ∷ 0x2D ∷ 0x07 ∷ 0x00 ∷ 0x00 ∷ 0x00
    ∷ 0x0F ∷ 0x01 ∷ 0x01 ∷ 0x28 ∷ 0x32 ∷ 0x00
    ∷ 0x0F ∷ 0x03 ∷ 0x01 ∷ 0x28 ∷ 0x32 ∷ 0x00
    ∷ 0x21 ∷ 0x06 ∷ 0x05 ∷ 0x00 ∷ 0x00 ∷ 0x00
    ∷ 0x21 ∷ 0x07 ∷ 0x05 ∷ 0x00 ∷ 0x00 ∷ 0x00
    ∷ 0x07 ∷ 0x04 ∷ 0x01 ∷ 0x2D
    ∷ 0x21 ∷ 0x06 ∷ 0x06 ∷ 0x00 ∷ 0x00 ∷ 0x00
    ∷ 0x21 ∷ 0x07 ∷ 0x06 ∷ 0x00 ∷ 0x00 ∷ 0x00
    ∷ 0x21 ∷ 0x06 ∷ 0x03 ∷ 0x00 ∷ 0x00 ∷ 0x00
    ∷ 0x07 ∷ 0x04 ∷ 0x01 ∷ 0x2D
    ∷ 0x21 ∷ 0x07 ∷ 0x03 ∷ 0x00 ∷ 0x00 ∷ 0x00 ∷ []

-- a session of one good record, a bad one and a good one
abbrev bad_middle : List ℕ
bad_middle = mark ++ (0x07 ∷ 0x04 ∷ 0x00 ∷ 0x09 ∷ 0x03 ∷ 0x04 ∷ 0x00 ∷ 0x07 ∷ 0x04 ∷ 0x00 ∷ 0x09 ∷ [])

-- a session whose first step is refused, and its second is not
abbrev refused_first : List ℕ
refused_first = mark ++ (0x03 ∷ 0x0D ∷ 0x08 ∷ 0x07 ∷ 0x04 ∷ 0x00 ∷ 0x09 ∷ [])

-- document 02 §1: a session of two steps of kind 14, and a kind that is not in force
abbrev intervals_found : List ℕ
intervals_found = mark ++ (0x05 ∷ 0x0E ∷ 0x07 ∷ 0x05 ∷ 0x0E ∷ 0xFF ∷ 0x05 ∷ 0x17 ∷ 0x07 ∷ [])

-- document 02 §2: entry 45 is loaded with 7, and the load commits; after a tablet restart another load there, with 8, is turned back
abbrev loaded : List ℕ
loaded =
    mark
    ++ (0x15 ∷ 0x0F ∷ 0x2D ∷ 0x07 ∷ 0x00 ∷ 0x00 ∷ 0x00
    ∷ 0x21 ∷ 0x06 ∷ 0x01 ∷ 0x00 ∷ 0x00 ∷ 0x00
    ∷ 0x21 ∷ 0x07 ∷ 0x01 ∷ 0x00 ∷ 0x00 ∷ 0x00
    ∷ 0x05 ∷ 0x0C ∷ 0x00
    ∷ 0x15 ∷ 0x0F ∷ 0x2D ∷ 0x08 ∷ 0x00 ∷ 0x00 ∷ 0x00
    ∷ 0x21 ∷ 0x06 ∷ 0x02 ∷ 0x00 ∷ 0x00 ∷ 0x00
    ∷ 0x21 ∷ 0x07 ∷ 0x02 ∷ 0x00 ∷ 0x00 ∷ 0x00 ∷ [])

-- document 02 §4: so many boundaries set, before entry e and those after it
abbrev splits_from : ℕ → ℕ → List ℕ
splits_from e zero = []
splits_from e (suc n) = 0x05 ∷ 0x0A ∷ e ∷ splits_from (suc e) n

abbrev splits : ℕ → List ℕ
splits n = mark ++ splits_from 1 n

abbrev dones : ℕ → List Reply
dones zero = []
dones (suc n) = done ∷ dones n

-- ---- the rows

-- "none 24; 40: 25; 02 00: 27; 01 C8: 26; 03 04 00: 27; 07 04 00: 24"
abbrev record_cases : List Case
record_cases =
    case (record_bytes []) (refusal cut_short ∷ [])
    ∷ case (record_bytes (0x40 ∷ [])) (refusal unknown_field ∷ [])
    ∷ case (record_bytes (0x02 ∷ 0x00 ∷ [])) (refusal wrong_fields ∷ [])
    ∷ case (record_bytes (0x01 ∷ 0xC8 ∷ [])) (refusal unknown_kind ∷ [])
    ∷ case (record_bytes (0x03 ∷ 0x04 ∷ 0x00 ∷ [])) (refusal wrong_fields ∷ [])
    ∷ case (record_bytes (0x07 ∷ 0x04 ∷ 0x00 ∷ [])) (refusal cut_short ∷ [])
    -- document 02 §1, "kind 14, map 05": taken; other fields; cut short
    ∷ case (record_bytes (0x05 ∷ 0x0E ∷ 0x07 ∷ [])) (done ∷ [])
    ∷ case (record_bytes (0x01 ∷ 0x0E ∷ [])) (refusal wrong_fields ∷ [])
    ∷ case (record_bytes (0x05 ∷ 0x0E ∷ [])) (refusal cut_short ∷ [])
    -- document 02 §2, "Kind 15 (entry and value, map 15 hexadecimal)": taken; without a value, with a player; cut short
    ∷ case (record_bytes (0x15 ∷ 0x0F ∷ 0x2D ∷ 0x07 ∷ 0x00 ∷ 0x00 ∷ 0x00 ∷ [])) (done ∷ [])
    ∷ case (record_bytes (0x05 ∷ 0x0F ∷ 0x2D ∷ [])) (refusal wrong_fields ∷ [])
    ∷ case (record_bytes (0x17 ∷ 0x0F ∷ 0x08 ∷ 0x2D ∷ 0x07 ∷ 0x00 ∷ 0x00 ∷ 0x00 ∷ [])) (refusal wrong_fields ∷ [])
    ∷ case (record_bytes (0x15 ∷ 0x0F ∷ 0x2D ∷ 0x07 ∷ 0x00 ∷ 0x00 ∷ [])) (refusal cut_short ∷ [])
    -- "26 means a kind not in force": 23; 23 with the fields of 14, where 26 comes before 27; 0
    ∷ case (record_bytes (0x01 ∷ 0x17 ∷ [])) (refusal unknown_kind ∷ [])
    ∷ case (record_bytes (0x05 ∷ 0x17 ∷ 0x07 ∷ [])) (refusal unknown_kind ∷ [])
    ∷ case (record_bytes (0x01 ∷ 0x00 ∷ [])) (refusal unknown_kind ∷ [])
    ∷ []

abbrev session_cases : List Case
session_cases =
    -- the document's session
    case (session worked_session 16384 5460) (session_replies ++ (reply at_end 15 92 ∷ []))
    -- no byte; the mark alone; another mark
    ∷ case (session [] 16384 5460) (reply no_mark 0 0 ∷ [])
    ∷ case (session mark 16384 5460) (reply at_end 0 4 ∷ [])
    ∷ case (session (0x52 ∷ 0x53 ∷ 0x4C ∷ 0x32 ∷ []) 16384 5460) (reply no_mark 0 0 ∷ [])
    -- budget 0: at the end all the same 0, else 9
    ∷ case (session mark 0 5460) (reply at_end 0 4 ∷ [])
    ∷ case (session worked_session 0 5460) (reply spent 0 4 ∷ [])
    -- two list places
    ∷ case (session worked_session 16384 2) (issued 1 ∷ issued 2 ∷ reply spent 2 16 ∷ [])
    -- a bad record in the middle; 9 comes before its number
    ∷ case (session bad_middle 16384 5460) (issued 1 ∷ reply wrong_fields 1 8 ∷ [])
    ∷ case (session bad_middle 1 5460) (issued 1 ∷ reply spent 1 8 ∷ [])
    -- a refused step is taken, and the run goes on
    ∷ case (session refused_first 16384 5460) (refusal 28 ∷ issued 1 ∷ reply at_end 2 11 ∷ [])
    -- document 02 §1: two guard intervals found, and a kind not in force
    ∷ case (session intervals_found 16384 5460) (interval 0 255 ∷ interval 0 255 ∷ reply unknown_kind 2 10 ∷ [])
    -- document 02 §2: a load that commits, one that is turned back
    ∷ case (session loaded 16384 5460) (issued 1 ∷ done ∷ committed 1 7 ∷ done ∷ issued 2 ∷ done ∷ rejected 2 ∷ reply at_end 7 45 ∷ [])
    ∷ []

-- document 02 §4
abbrev preview_cases : List Case
preview_cases =
    -- "with its report and replies": the document's session, of 15 records
    case (preview worked_session 16384 5460) (session_replies ++ (reply at_end 15 92 ∷ []))
    -- "a budget above 16 counting as 16": 16 records are all; one more is left
    ∷ case (preview (splits 16) 16384 5460) (dones 16 ++ (reply at_end 16 52 ∷ []))
    ∷ case (preview (splits 17) 16384 5460) (dones 16 ++ (reply spent 16 52 ∷ []))
    ∷ case (preview (splits 17) 17 5460) (dones 16 ++ (reply spent 16 52 ∷ []))
    ∷ case (preview (splits 17) 16 5460) (dones 16 ++ (reply spent 16 52 ∷ []))
    -- a smaller one stays; so do the list's places
    ∷ case (preview (splits 17) 15 5460) (dones 15 ++ (reply spent 15 49 ∷ []))
    ∷ case (preview (splits 17) 0 5460) (reply spent 0 4 ∷ [])
    ∷ case (preview (splits 17) 16384 2) (dones 2 ++ (reply spent 2 10 ∷ []))
    -- 9 comes before the number of a bad record behind the 16th; one before it is told
    ∷ case (preview (splits 16 ++ (0x40 ∷ [])) 16384 5460) (dones 16 ++ (reply spent 16 52 ∷ []))
    ∷ case (preview (splits 15 ++ (0x40 ∷ [])) 16384 5460) (dones 15 ++ (reply unknown_field 15 49 ∷ []))
    -- a refused step is replied to, a refused run is refused
    ∷ case (preview refused_first 16384 5460) (refusal 28 ∷ issued 1 ∷ reply at_end 2 11 ∷ [])
    ∷ case (preview [] 16384 5460) (reply no_mark 0 0 ∷ [])
    ∷ []

-- all of them: steps, records, sessions, previews
abbrev pub cases : List Case
cases = map (λ (c : StepCase). case (steps c.from c.steps) c.expected) step_cases ++ (record_cases ++ (session_cases ++ preview_cases))

-- each case is found as expected
pub theorem : map (λ (c : Case). found c.given) cases ≡ map (λ (c : Case). c.expected) cases
unfolding unbroken tablet_first tablet_end interval_first interval_last fields_length record_length fields map_of step_of tested begins run_from
theorem = refl

-- the document's session is what is written for its steps
pub written : mark ++ encode_all session_steps ≡ worked_session
unfolding field_bytes map_of
written = refl

-- the record of a step of kind 14: read, and written
pub interval_read : decode (0x05 ∷ 0x0E ∷ 0x07 ∷ []) ≡ Record (FindInterval 7) 3
unfolding fields_length record_length fields map_of step_of tested
interval_read = refl

pub interval_written : encode (FindInterval 7) ≡ 0x05 ∷ 0x0E ∷ 0x07 ∷ []
unfolding field_bytes map_of
interval_written = refl

-- the record of a load: read, and written
pub load_read : decode (0x15 ∷ 0x0F ∷ 0x2D ∷ 0x04 ∷ 0x03 ∷ 0x02 ∷ 0x81 ∷ []) ≡ Record (Load 45 2164392708) 7
unfolding fields_length record_length fields map_of step_of tested
load_read = refl

pub load_written : encode (Load 45 2164392708) ≡ 0x15 ∷ 0x0F ∷ 0x2D ∷ 0x04 ∷ 0x03 ∷ 0x02 ∷ 0x81 ∷ []
unfolding field_bytes map_of
load_written = refl

-- document 02 §4, "a budget above 16 counting as 16"
pub budgets_counted : map preview_budget (0 ∷ 1 ∷ 15 ∷ 16 ∷ 17 ∷ 16384 ∷ 4294967295 ∷ []) ≡ 0 ∷ 1 ∷ 15 ∷ 16 ∷ 16 ∷ 16 ∷ 16 ∷ []
budgets_counted = refl
