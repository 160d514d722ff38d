-- Worked cases of the claim: the counts after the bytes of a session, and to whom replies go.
-- Assumes nothing.
use Rattle.std.specs.Prelude.{◌≡◌, refl, List, [], ◌∷◌, ◌++◌, map, ℕ}
use Rattle.store.specs.Model.{unbroken}
use Rattle.counters.specs.Model.{most, counts, none, counted, counted_by}
use Rattle.players.specs.declared.Step.{Step}
use Rattle.players.specs.declared.Step.TheVariants.{Assign, Read, Deliver, Respond, Abandon, RestartPlayer}
use Rattle.players.specs.Kinds.{map_of, step_of}
use Rattle.players.specs.Rules.{State, fresh, with_counters, replies}
use Rattle.players.specs.Played.{state_after}
use Rattle.session.specs.Layout.{fields_length, record_length, fields}
use Rattle.session.specs.Records.{tested}
use Rattle.session.specs.Mark.{mark, begins}
use Rattle.session.specs.Runs.{steps_from, steps, words}
use Rattle.read_counts.specs.Claim.{reader, answers_read, from_memory, replies_to}

-- `sessions/shares`: 34 records
abbrev pub shares_session : List ℕ
shares_session =
    mark
    ++ (0x0F ∷ 0x01 ∷ 0x00 ∷ 0x28 ∷ 0x3C ∷ 0x00
    ∷ 0x15 ∷ 0x0F ∷ 0x2D ∷ 0x07 ∷ 0x00 ∷ 0x00 ∷ 0x00
    ∷ 0x21 ∷ 0x06 ∷ 0x02 ∷ 0x00 ∷ 0x00 ∷ 0x00
    ∷ 0x21 ∷ 0x07 ∷ 0x02 ∷ 0x00 ∷ 0x00 ∷ 0x00
    ∷ 0x0F ∷ 0x03 ∷ 0x00 ∷ 0x28 ∷ 0x3C ∷ 0x00
    ∷ 0x21 ∷ 0x06 ∷ 0x03 ∷ 0x00 ∷ 0x00 ∷ 0x00
    ∷ 0x21 ∷ 0x07 ∷ 0x03 ∷ 0x00 ∷ 0x00 ∷ 0x00
    ∷ 0x07 ∷ 0x04 ∷ 0x00 ∷ 0x2D
    ∷ 0x07 ∷ 0x04 ∷ 0x01 ∷ 0x2D
    ∷ 0x21 ∷ 0x06 ∷ 0x05 ∷ 0x00 ∷ 0x00 ∷ 0x00
    ∷ 0x21 ∷ 0x06 ∷ 0x04 ∷ 0x00 ∷ 0x00 ∷ 0x00
    ∷ 0x21 ∷ 0x07 ∷ 0x05 ∷ 0x00 ∷ 0x00 ∷ 0x00
    ∷ 0x21 ∷ 0x07 ∷ 0x04 ∷ 0x00 ∷ 0x00 ∷ 0x00
    ∷ 0x07 ∷ 0x04 ∷ 0x00 ∷ 0x2D
    ∷ 0x07 ∷ 0x04 ∷ 0x01 ∷ 0x2D
    ∷ 0x07 ∷ 0x04 ∷ 0x00 ∷ 0x2D
    ∷ 0x21 ∷ 0x06 ∷ 0x06 ∷ 0x00 ∷ 0x00 ∷ 0x00
    ∷ 0x21 ∷ 0x07 ∷ 0x06 ∷ 0x00 ∷ 0x00 ∷ 0x00
    ∷ 0x07 ∷ 0x04 ∷ 0x08 ∷ 0x2D
    ∷ 0x07 ∷ 0x04 ∷ 0x02 ∷ 0x2E
    ∷ 0x21 ∷ 0x08 ∷ 0x07 ∷ 0x00 ∷ 0x00 ∷ 0x00
    ∷ 0x21 ∷ 0x06 ∷ 0x07 ∷ 0x00 ∷ 0x00 ∷ 0x00
    ∷ 0x07 ∷ 0x04 ∷ 0x00 ∷ 0x2D
    ∷ 0x17 ∷ 0x05 ∷ 0x00 ∷ 0x2D ∷ 0x09 ∷ 0x00 ∷ 0x00 ∷ 0x00
    ∷ 0x07 ∷ 0x04 ∷ 0x00 ∷ 0x2D
    ∷ 0x21 ∷ 0x06 ∷ 0x08 ∷ 0x00 ∷ 0x00 ∷ 0x00
    ∷ 0x21 ∷ 0x06 ∷ 0x09 ∷ 0x00 ∷ 0x00 ∷ 0x00
    ∷ 0x21 ∷ 0x07 ∷ 0x09 ∷ 0x00 ∷ 0x00 ∷ 0x00
    ∷ 0x21 ∷ 0x07 ∷ 0x08 ∷ 0x00 ∷ 0x00 ∷ 0x00
    ∷ 0x07 ∷ 0x04 ∷ 0x00 ∷ 0x2D
    ∷ 0x03 ∷ 0x0D ∷ 0x00
    ∷ 0x07 ∷ 0x04 ∷ 0x00 ∷ 0x2D
    ∷ 0x21 ∷ 0x06 ∷ 0x0A ∷ 0x00 ∷ 0x00 ∷ 0x00
    ∷ 0x21 ∷ 0x07 ∷ 0x0A ∷ 0x00 ∷ 0x00 ∷ 0x00
    ∷ [])

-- its steps
abbrev told : List Step
told = steps shares_session 16384 5460

-- the numbers of its replies, by hand: reads from memory are the 14th, 16th, 23rd and 30th, answers to reads the 12th, 13th, 18th, 28th and 34th
abbrev told_numbers : List ℕ
told_numbers =
    1 ∷ 1 ∷ 0
    ∷ 1 ∷ 2 ∷ 0
    ∷ 0 ∷ 0 ∷ 0
    ∷ 4 ∷ 2 ∷ 7
    ∷ 1 ∷ 3 ∷ 0
    ∷ 0 ∷ 0 ∷ 0
    ∷ 6 ∷ 3 ∷ 0
    ∷ 1 ∷ 4 ∷ 0
    ∷ 1 ∷ 5 ∷ 0
    ∷ 0 ∷ 0 ∷ 0
    ∷ 0 ∷ 0 ∷ 0
    ∷ 3 ∷ 2 ∷ 7
    ∷ 3 ∷ 2 ∷ 7
    ∷ 2 ∷ 2 ∷ 7
    ∷ 1 ∷ 6 ∷ 0
    ∷ 2 ∷ 2 ∷ 7
    ∷ 0 ∷ 0 ∷ 0
    ∷ 3 ∷ 2 ∷ 7
    ∷ 28 ∷ 0 ∷ 0
    ∷ 1 ∷ 7 ∷ 0
    ∷ 0 ∷ 0 ∷ 0
    ∷ 0 ∷ 0 ∷ 0
    ∷ 2 ∷ 2 ∷ 7
    ∷ 1 ∷ 8 ∷ 0
    ∷ 1 ∷ 9 ∷ 0
    ∷ 0 ∷ 0 ∷ 0
    ∷ 0 ∷ 0 ∷ 0
    ∷ 3 ∷ 8 ∷ 9
    ∷ 4 ∷ 8 ∷ 9
    ∷ 2 ∷ 8 ∷ 9
    ∷ 0 ∷ 0 ∷ 0
    ∷ 1 ∷ 10 ∷ 0
    ∷ 0 ∷ 0 ∷ 0
    ∷ 3 ∷ 8 ∷ 9
    ∷ []

pub told_case : words (replies fresh told) ≡ told_numbers
unfolding steps_from fields_length record_length fields map_of step_of tested begins counted counted_by unbroken
told_case = refl

-- player 0 has seven answered reads, four of them from memory; player 1 two, from the store; player 2 gave its read up; 8 is none
pub counts_case : map (state_after fresh told).counters (0 ∷ 1 ∷ 2 ∷ 8 ∷ []) ≡ counts 7 4 ∷ counts 2 0 ∷ none ∷ none ∷ []
unfolding steps_from fields_length record_length fields map_of step_of tested begins state_after counted counted_by unbroken
counts_case = refl

-- as many replies went to them
pub replies_case :
    map (λ p. replies_to answers_read p fresh told (replies fresh told) ∷ replies_to from_memory p fresh told (replies fresh told) ∷ []) (0 ∷ 1 ∷ 2 ∷ 8 ∷ [])
    ≡ (7 ∷ 4 ∷ []) ∷ (2 ∷ 0 ∷ []) ∷ (0 ∷ 0 ∷ []) ∷ (0 ∷ 0 ∷ []) ∷ []
unfolding steps_from fields_length record_length fields map_of step_of tested begins counted counted_by unbroken
replies_case = refl

-- an answer goes to the player of the request, whoever owns the entry; one of no request, and other steps, to nobody
pub reader_case :
    let s = state_after fresh (Assign 3 (record { low = 40; high = 60 }) ∷ Read 5 45 ∷ []) in
    map (reader s) (Respond 2 ∷ Respond 9 ∷ Read 6 45 ∷ Deliver 2 ∷ Abandon 2 ∷ RestartPlayer 5 ∷ []) ≡ 5 ∷ 8 ∷ 6 ∷ 8 ∷ 8 ∷ 8 ∷ []
unfolding state_after
reader_case = refl

-- ‘leaves both counts as they were’: with answered reads at the limit the steps reply as ever, and the counts stay
abbrev full : State
full = with_counters fresh (λ p. counts most 12)

pub full_case : map (state_after full told).counters (0 ∷ 1 ∷ []) ≡ counts most 12 ∷ counts most 12 ∷ []
unfolding steps_from fields_length record_length fields map_of step_of tested begins state_after counted counted_by unbroken
full_case = refl

pub full_replies : words (replies full told) ≡ told_numbers
unfolding steps_from fields_length record_length fields map_of step_of tested begins counted counted_by unbroken
full_replies = refl
