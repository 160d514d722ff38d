-- The promise tried by computation: the codes of the six steps and the next one where all holds that is supposed, with others idle and busy; and for each thing supposed a
-- case in which it alone is missing, and the promise fails. Worked out by hand.
-- Assumes nothing.
use Rattle.std.specs.Prelude.{◌≡◌, refl, Bool, true, false, cond, not, ◌&&◌, ◌||◌, List, [], ◌∷◌, ◌++◌, map, ℕ, zero, suc, eqb, length}
use Rattle.store.specs.Model.{serials, unbroken, tablet_first, tablet_end}
use Rattle.store.specs.declared.Range.{Range}
use Rattle.requests.specs.Model.{new_request}
use Rattle.players.specs.declared.Step.{Step}
use Rattle.players.specs.declared.Step.TheVariants.{Assign, Release, RequestGuard, Read, Write, Deliver, Respond, Abandon, Lose, Split, Merge, RestartTablet, RestartPlayer, FindInterval, Load}
use Rattle.players.specs.Rules.{State, Result, fresh, with_last, with_owners, with_requests}
use Rattle.players.specs.Played.{state_after}
use Rattle.players.specs.Cases.{range}
use Rattle.players.specs.Kinds.{map_of, step_of}
use Rattle.session.specs.Layout.{fields_length, record_length, fields}
use Rattle.session.specs.Records.{tested}
use Rattle.session.specs.Mark.{mark, begins}
use Rattle.session.specs.Runs.{steps_from, steps}
use Rattle.first_read.specs.Promise.{all, rules_used, Others, requested, delivered, answered, read, read_delivered, read_answered, next, supposed}
use Rattle.first_read.specs.Lines.{line}

-- ---- a case

-- a state, player, range and entry, what others do; which of all that is supposed is missing, by its place, and the codes of the seven replies
pub record Case : Type 0 where
  pub from : State
  pub player : ℕ
  pub range : Range
  pub entry : ℕ
  pub others : Others
  pub missing : List ℕ
  pub codes : List ℕ

-- the places of the tests that fail, from n on
abbrev failing : ℕ → List Bool → List ℕ
failing n [] = []
failing n (b ∷ bs) = cond b (failing (suc n) bs) (n ∷ failing (suc n) bs)

-- what is missing, by computation
abbrev missed : Case → List ℕ
missed c = failing 0 (rules_used c.from c.range ++ supposed c.from c.player c.range c.entry c.others)

-- the codes, by computation
abbrev replied : Case → List ℕ
replied c =
    let of : (State → ℕ → Range → ℕ → Others → Result) → ℕ = λ f. (f c.from c.player c.range c.entry c.others).reply.code in
    of requested ∷ of delivered ∷ of answered ∷ of read ∷ of read_delivered ∷ of read_answered ∷ of next ∷ []

-- the case with both computed
abbrev computed : Case → Case
computed c =
    record { from = c.from; player = c.player; range = c.range; entry = c.entry; others = c.others; missing = missed c; codes = replied c }

-- ---- the places of what is supposed

abbrev epochs_issued : ℕ
epochs_issued = 0

abbrev serials_issued : ℕ
serials_issued = 1

abbrev a_player : ℕ
a_player = 2

abbrev a_range : ℕ
a_range = 3

abbrev owner : ℕ
owner = 4

abbrev in_one_tablet : ℕ
in_one_tablet = 5

abbrev no_request : ℕ
no_request = 6

abbrev entry_there : ℕ
entry_there = 7

abbrev up_to_delivery : ℕ
up_to_delivery = 8

abbrev up_to_answer : ℕ
up_to_answer = 9

abbrev up_to_read : ℕ
up_to_read = 10

abbrev up_to_read_delivery : ℕ
up_to_read_delivery = 11

abbrev up_to_read_answer : ℕ
up_to_read_answer = 12

abbrev up_to_next : ℕ
up_to_next = 13

abbrev a_serial : ℕ
a_serial = 14

-- ---- states

-- a boundary before entry 40, and player 0 owns 40 to 59: serial 1
abbrev start : State
start = state_after fresh (Split 40 ∷ Assign 0 (range 40 60) ∷ [])

-- the same after further steps
abbrev after : List Step → State
after xs = state_after start xs

-- n times
abbrev times : ℕ → List Step → List Step
times zero xs = []
times (suc n) xs = xs ++ times n xs

-- k reads of player 0, abandoned, with the serials from n on
abbrev abandoned_reads : ℕ → ℕ → List Step
abandoned_reads zero n = []
abandoned_reads (suc k) n = Read 0 45 ∷ Abandon n ∷ abandoned_reads k (suc n)

-- ---- what others do

abbrev others : List Step → List Step → List Step → List Step → List Step → List Step → Others
others a b c d e f =
    record { before_delivery = a; before_answer = b; before_read = c; before_read_delivery = d; before_read_answer = e; before_next = f }

-- nothing
abbrev idle : Others
idle = others [] [] [] [] [] []

-- in one of the six places
abbrev in_delivery : List Step → Others
in_delivery xs = others xs [] [] [] [] []

abbrev in_answer : List Step → Others
in_answer xs = others [] xs [] [] [] []

abbrev in_read : List Step → Others
in_read xs = others [] [] xs [] [] []

abbrev in_read_delivery : List Step → Others
in_read_delivery xs = others [] [] [] xs [] []

abbrev in_read_answer : List Step → Others
in_read_answer xs = others [] [] [] [] xs []

abbrev in_next : List Step → Others
in_next xs = others [] [] [] [] [] xs

-- player 0, the range 40 to 59 and entry 45
abbrev usual : State → Others → List ℕ → List ℕ → Case
usual s o missing codes = record { from = s; player = 0; range = range 40 60; entry = 45; others = o; missing = missing; codes = codes }

-- ---- where all is there

-- 1, 0, 6, 1, 0, 3, 2
abbrev promised : List ℕ
promised = 1 ∷ 0 ∷ 6 ∷ 1 ∷ 0 ∷ 3 ∷ 2 ∷ []

-- player 1 had the range before, with guard 2; its write 3 to entry 45 and its read 4 are on their way; serial 5 is the assignment to player 0
abbrev taken_over : State
taken_over = state_after fresh (Split 40 ∷ Assign 1 (range 40 60) ∷ RequestGuard 1 (range 40 60) ∷ Deliver 2 ∷ Respond 2 ∷ Write 1 45 7 ∷ Read 1 46 ∷ Assign 0 (range 40 60) ∷ [])

abbrev pub kept_cases : List Case
kept_cases =
    usual start idle [] promised
    -- loads, restarts of the tablet and of another player, boundaries at the range's low and high, entries beside it assigned and released, reads of others
    ∷ usual start (others (Load 45 9 ∷ RestartTablet 45 ∷ []) (RestartTablet 45 ∷ Merge 40 ∷ RestartPlayer 1 ∷ Deliver 3 ∷ []) (Split 60 ∷ Split 40 ∷ Release (range 60 61) ∷ FindInterval 45 ∷ []) (Load 45 8 ∷ Deliver 99 ∷ []) (Read 1 45 ∷ Assign 0 (range 30 40) ∷ []) (RestartTablet 45 ∷ Assign 0 (range 39 40) ∷ []))
    [] promised
    -- the write of the owner before is delivered after the guard, and is rejected; its first read is lost, and what else it asks for is refused
    ∷ usual taken_over (others (Read 1 45 ∷ []) (Deliver 3 ∷ []) (Respond 3 ∷ Abandon 4 ∷ Lose 4 ∷ []) (RestartPlayer 1 ∷ []) (Write 1 45 8 ∷ RequestGuard 1 (range 40 60) ∷ []) (Deliver 3 ∷ [])) [] promised
    -- another player gets entries beside the range, a guard there, and writes; a serial of it is above the player's
    ∷ usual start (others (Assign 2 (range 60 80) ∷ RequestGuard 2 (range 60 80) ∷ []) (Deliver 4 ∷ Respond 4 ∷ Write 2 70 5 ∷ []) (Deliver 5 ∷ Respond 5 ∷ []) (Write 2 60 6 ∷ Abandon 7 ∷ []) (RequestGuard 2 (range 60 61) ∷ Read 2 45 ∷ []) (Deliver 7 ∷ Deliver 8 ∷ Deliver 9 ∷ Respond 9 ∷ [])) [] promised
    -- refused steps alter nothing: an assignment and a release past the last entry, a restart of player 8, steps on the player's requests that do not fit them, a write of
    -- the player to an entry that is not its own
    ∷ usual start (others (Assign 1 (range 40 257) ∷ Respond 2 ∷ Lose 2 ∷ []) (Deliver 2 ∷ Lose 2 ∷ Release (range 50 50) ∷ Write 0 60 1 ∷ []) (Respond 2 ∷ RestartPlayer 8 ∷ []) (Assign 9 (range 40 60) ∷ Respond 3 ∷ []) (Deliver 3 ∷ []) (Release (range 0 300) ∷ Abandon 3 ∷ [])) [] promised
    -- the last two serials
    ∷ usual (with_last start 3999998) idle [] promised
    -- a range of one entry, and all entries
    ∷ record { from = start; player = 0; range = range 45 46; entry = 45; others = in_answer (Assign 1 (range 46 60) ∷ Release (range 40 45) ∷ Split 45 ∷ Split 46 ∷ []); missing = []; codes = promised }
    ∷ record { from = state_after fresh (Assign 7 (range 0 256) ∷ []); player = 7; range = range 0 256; entry = 255; others = in_next (RestartTablet 0 ∷ RestartPlayer 0 ∷ []); missing = []; codes = promised }
    ∷ []

pub kept_as_worked : map computed kept_cases ≡ kept_cases
unfolding state_after unbroken tablet_first tablet_end
kept_as_worked = refl

-- ---- where one thing is missing

abbrev pub missing_cases : List Case
missing_cases =
    -- ‘In tables that keep the rules’: an epoch above the last serial; another's request with a serial that is not issued yet
    usual (with_owners start (record { owner = start.owners.owner; epoch = λ e. 9 })) idle (epochs_issued ∷ []) (1 ∷ 0 ∷ 7 ∷ 1 ∷ 0 ∷ 3 ∷ 1 ∷ [])
    ∷ usual (with_requests start (new_request 2 1 4 45 0 0 0 false ∷ [])) idle (serials_issued ∷ []) (1 ∷ 0 ∷ 3 ∷ 1 ∷ 0 ∷ 3 ∷ 1 ∷ [])
    -- ‘a player’: 8, which as an owner is nobody
    ∷ record { from = fresh; player = 8; range = range 40 60; entry = 45; others = idle; missing = a_player ∷ []; codes = 28 ∷ 32 ∷ 32 ∷ 28 ∷ 32 ∷ 32 ∷ 28 ∷ [] }
    -- ‘a range’: up to 257
    ∷ record { from = with_owners fresh (record { owner = λ e. 0; epoch = λ e. 0 }); player = 0; range = range 40 257; entry = 45; others = idle; missing = a_range ∷ []; codes = 28 ∷ 32 ∷ 32 ∷ 1 ∷ 0 ∷ 3 ∷ 1 ∷ [] }
    -- ‘owns a range’: but for entry 59
    ∷ usual (after (Release (range 59 60) ∷ [])) idle (owner ∷ []) (29 ∷ 32 ∷ 32 ∷ 1 ∷ 0 ∷ 3 ∷ 1 ∷ [])
    -- ‘inside one tablet’: a boundary before entry 59
    ∷ usual (after (Split 59 ∷ [])) idle (in_one_tablet ∷ []) (1 ∷ 0 ∷ 8 ∷ 1 ∷ 0 ∷ 3 ∷ 1 ∷ [])
    -- ‘has no row in flight’: a guard request for one entry; a write on the entry, which overlaps the read; six abandoned reads, where 16 loads take the common places
    ∷ usual (after (RequestGuard 0 (range 59 60) ∷ [])) idle (no_request ∷ []) (31 ∷ 32 ∷ 32 ∷ 1 ∷ 0 ∷ 3 ∷ 1 ∷ [])
    ∷ usual (after (RequestGuard 0 (range 40 60) ∷ Deliver 2 ∷ Respond 2 ∷ Write 0 45 7 ∷ [])) idle (no_request ∷ []) (1 ∷ 0 ∷ 6 ∷ 1 ∷ 0 ∷ 3 ∷ 1 ∷ [])
    ∷ usual (after (abandoned_reads 6 2 ++ times 16 (Load 7 7 ∷ []))) idle (no_request ∷ []) (38 ∷ 32 ∷ 32 ∷ 38 ∷ 32 ∷ 32 ∷ 38 ∷ [])
    -- ‘an entry there’: entry 60
    ∷ record { from = start; player = 0; range = range 40 60; entry = 60; others = idle; missing = entry_there ∷ []; codes = 1 ∷ 0 ∷ 6 ∷ 1 ∷ 0 ∷ 3 ∷ 1 ∷ [] }
    -- ‘assign … entries of the range’: to another, and to the player itself, each from where on it matters
    ∷ usual start (in_delivery (Assign 1 (range 59 60) ∷ [])) (up_to_delivery ∷ []) (1 ∷ 0 ∷ 7 ∷ 1 ∷ 0 ∷ 3 ∷ 1 ∷ [])
    ∷ usual start (in_answer (Assign 0 (range 0 41) ∷ [])) (up_to_answer ∷ []) (1 ∷ 0 ∷ 7 ∷ 1 ∷ 0 ∷ 3 ∷ 1 ∷ [])
    ∷ usual start (in_read (Assign 0 (range 45 46) ∷ [])) (up_to_read ∷ []) (1 ∷ 0 ∷ 6 ∷ 1 ∷ 0 ∷ 3 ∷ 1 ∷ [])
    ∷ usual start (in_next (Assign 0 (range 45 46) ∷ [])) (up_to_next ∷ []) (1 ∷ 0 ∷ 6 ∷ 1 ∷ 0 ∷ 3 ∷ 1 ∷ [])
    -- ‘or release’
    ∷ usual start (in_read_delivery (Release (range 40 60) ∷ [])) (up_to_read_delivery ∷ []) (1 ∷ 0 ∷ 6 ∷ 1 ∷ 0 ∷ 3 ∷ 1 ∷ [])
    ∷ usual start (in_read_answer (Release (range 45 46) ∷ [])) (up_to_read_answer ∷ []) (1 ∷ 0 ∷ 6 ∷ 1 ∷ 0 ∷ 3 ∷ 1 ∷ [])
    -- ‘put a border inside it’: at its second entry and at its last
    ∷ usual start (in_delivery (Split 41 ∷ [])) (up_to_delivery ∷ []) (1 ∷ 0 ∷ 8 ∷ 1 ∷ 0 ∷ 3 ∷ 1 ∷ [])
    ∷ usual start (in_delivery (Split 59 ∷ [])) (up_to_delivery ∷ []) (1 ∷ 0 ∷ 8 ∷ 1 ∷ 0 ∷ 3 ∷ 1 ∷ [])
    -- ‘restart this player’: the request is abandoned, or leaves; the guard is cleared; what is cached, too
    ∷ usual start (in_delivery (RestartPlayer 0 ∷ [])) (up_to_delivery ∷ []) (1 ∷ 0 ∷ 32 ∷ 1 ∷ 0 ∷ 3 ∷ 1 ∷ [])
    ∷ usual start (in_answer (RestartPlayer 0 ∷ [])) (up_to_answer ∷ []) (1 ∷ 0 ∷ 32 ∷ 1 ∷ 0 ∷ 3 ∷ 1 ∷ [])
    ∷ usual start (in_read (RestartPlayer 0 ∷ [])) (up_to_read ∷ []) (1 ∷ 0 ∷ 6 ∷ 1 ∷ 0 ∷ 3 ∷ 1 ∷ [])
    ∷ usual start (in_next (RestartPlayer 0 ∷ [])) (up_to_next ∷ []) (1 ∷ 0 ∷ 6 ∷ 1 ∷ 0 ∷ 3 ∷ 1 ∷ [])
    -- ‘or take steps on its rows’: they are delivered, answered, abandoned; abandoned and lost
    ∷ usual start (in_delivery (Deliver 2 ∷ [])) (up_to_delivery ∷ []) (1 ∷ 32 ∷ 6 ∷ 1 ∷ 0 ∷ 3 ∷ 2 ∷ [])
    ∷ usual start (in_answer (Respond 2 ∷ [])) (up_to_answer ∷ []) (1 ∷ 0 ∷ 32 ∷ 1 ∷ 0 ∷ 3 ∷ 2 ∷ [])
    ∷ usual start (in_read_answer (Abandon 3 ∷ [])) (up_to_read_answer ∷ []) (1 ∷ 0 ∷ 6 ∷ 1 ∷ 0 ∷ 32 ∷ 1 ∷ [])
    ∷ usual start (in_delivery (Abandon 2 ∷ Lose 2 ∷ [])) (up_to_delivery ∷ []) (1 ∷ 32 ∷ 32 ∷ 1 ∷ 0 ∷ 3 ∷ 1 ∷ [])
    -- ‘takes just six steps’: a read of its own is answered before, so that the fourth step sends nothing; a write of its own overlaps the read, or empties the cell; a
    -- guard request of its own clears the guard
    ∷ usual start (in_read (Read 0 45 ∷ Deliver 3 ∷ Respond 3 ∷ [])) (up_to_read ∷ []) (1 ∷ 0 ∷ 6 ∷ 2 ∷ 32 ∷ 32 ∷ 2 ∷ [])
    ∷ usual start (in_read (Write 0 45 7 ∷ [])) (up_to_read ∷ []) (1 ∷ 0 ∷ 6 ∷ 1 ∷ 0 ∷ 3 ∷ 1 ∷ [])
    ∷ usual start (in_read_delivery (Write 0 45 7 ∷ [])) (up_to_read_delivery ∷ []) (1 ∷ 0 ∷ 6 ∷ 1 ∷ 0 ∷ 3 ∷ 1 ∷ [])
    ∷ usual start (in_next (Write 0 45 7 ∷ [])) (up_to_next ∷ []) (1 ∷ 0 ∷ 6 ∷ 1 ∷ 0 ∷ 3 ∷ 1 ∷ [])
    ∷ usual start (in_next (RequestGuard 0 (range 45 46) ∷ [])) (up_to_next ∷ []) (1 ∷ 0 ∷ 6 ∷ 1 ∷ 0 ∷ 3 ∷ 1 ∷ [])
    -- ‘A serial must be left at the asking’, ‘and at the first read’
    ∷ usual (with_last start serials) idle (a_serial ∷ []) (34 ∷ 32 ∷ 32 ∷ 34 ∷ 32 ∷ 32 ∷ 34 ∷ [])
    ∷ usual (with_last start 3999999) idle (a_serial ∷ []) (1 ∷ 0 ∷ 6 ∷ 34 ∷ 32 ∷ 32 ∷ 34 ∷ [])
    ∷ []

pub missing_as_worked : map computed missing_cases ≡ missing_cases
unfolding state_after unbroken tablet_first tablet_end
missing_as_worked = refl

-- ---- each thing supposed is needed

abbrev same : List ℕ → List ℕ → Bool
same [] [] = true
same [] (y ∷ ys) = false
same (x ∷ xs) [] = false
same (x ∷ xs) (y ∷ ys) = eqb x y && same xs ys

-- the i-th alone is missing, and the promise fails
abbrev fails_without : ℕ → Case → Bool
fails_without i c = same c.missing (i ∷ []) && not (same c.codes promised)

abbrev some_case : (Case → Bool) → List Case → Bool
some_case f [] = false
some_case f (c ∷ cs) = f c || some_case f cs

-- for each of n, from i on, there is such a case
abbrev each_needed : ℕ → ℕ → Bool
each_needed i zero = true
each_needed i (suc n) = some_case (fails_without i) missing_cases && each_needed (suc i) n

-- of all that is supposed
pub all_needed : each_needed 0 (length (rules_used start (range 40 60) ++ supposed start 0 (range 40 60) 45 idle)) ≡ true
unfolding state_after unbroken
all_needed = refl

-- in none of the cases the promise is kept
pub all_fail : some_case (λ c. same c.codes promised) missing_cases ≡ false
all_fail = refl

-- ---- a session of bytes

-- `sessions/first_read`: 35 records, of which the player's are the 15th, 19th, 22nd, 25th, 28th, 30th and 33rd
abbrev pub first_read_session : List ℕ
first_read_session =
    mark
    ++ (0x05 ∷ 0x0A ∷ 0x78
    ∷ 0x0F ∷ 0x01 ∷ 0x00 ∷ 0x64 ∷ 0x78 ∷ 0x00
    ∷ 0x0F ∷ 0x03 ∷ 0x00 ∷ 0x64 ∷ 0x78 ∷ 0x00
    ∷ 0x21 ∷ 0x06 ∷ 0x02 ∷ 0x00 ∷ 0x00 ∷ 0x00
    ∷ 0x21 ∷ 0x07 ∷ 0x02 ∷ 0x00 ∷ 0x00 ∷ 0x00
    ∷ 0x17 ∷ 0x05 ∷ 0x00 ∷ 0x69 ∷ 0x07 ∷ 0x00 ∷ 0x00 ∷ 0x00
    ∷ 0x17 ∷ 0x05 ∷ 0x00 ∷ 0x6A ∷ 0x08 ∷ 0x00 ∷ 0x00 ∷ 0x00
    ∷ 0x21 ∷ 0x06 ∷ 0x03 ∷ 0x00 ∷ 0x00 ∷ 0x00
    ∷ 0x21 ∷ 0x06 ∷ 0x04 ∷ 0x00 ∷ 0x00 ∷ 0x00
    ∷ 0x21 ∷ 0x07 ∷ 0x03 ∷ 0x00 ∷ 0x00 ∷ 0x00
    ∷ 0x21 ∷ 0x07 ∷ 0x04 ∷ 0x00 ∷ 0x00 ∷ 0x00
    ∷ 0x17 ∷ 0x05 ∷ 0x00 ∷ 0x69 ∷ 0x09 ∷ 0x00 ∷ 0x00 ∷ 0x00
    ∷ 0x07 ∷ 0x04 ∷ 0x00 ∷ 0x6A
    ∷ 0x0F ∷ 0x01 ∷ 0x01 ∷ 0x64 ∷ 0x78 ∷ 0x00
    ∷ 0x0F ∷ 0x03 ∷ 0x01 ∷ 0x64 ∷ 0x78 ∷ 0x00
    ∷ 0x05 ∷ 0x0A ∷ 0x64
    ∷ 0x07 ∷ 0x04 ∷ 0x00 ∷ 0x6A
    ∷ 0x21 ∷ 0x09 ∷ 0x07 ∷ 0x00 ∷ 0x00 ∷ 0x00
    ∷ 0x21 ∷ 0x06 ∷ 0x07 ∷ 0x00 ∷ 0x00 ∷ 0x00
    ∷ 0x21 ∷ 0x06 ∷ 0x05 ∷ 0x00 ∷ 0x00 ∷ 0x00
    ∷ 0x0F ∷ 0x01 ∷ 0x01 ∷ 0x78 ∷ 0x82 ∷ 0x00
    ∷ 0x21 ∷ 0x07 ∷ 0x07 ∷ 0x00 ∷ 0x00 ∷ 0x00
    ∷ 0x05 ∷ 0x0C ∷ 0x69
    ∷ 0x15 ∷ 0x0F ∷ 0x69 ∷ 0x04 ∷ 0x00 ∷ 0x00 ∷ 0x00
    ∷ 0x07 ∷ 0x04 ∷ 0x01 ∷ 0x69
    ∷ 0x21 ∷ 0x07 ∷ 0x05 ∷ 0x00 ∷ 0x00 ∷ 0x00
    ∷ 0x21 ∷ 0x06 ∷ 0x0A ∷ 0x00 ∷ 0x00 ∷ 0x00
    ∷ 0x21 ∷ 0x06 ∷ 0x0B ∷ 0x00 ∷ 0x00 ∷ 0x00
    ∷ 0x03 ∷ 0x0D ∷ 0x00
    ∷ 0x21 ∷ 0x07 ∷ 0x0B ∷ 0x00 ∷ 0x00 ∷ 0x00
    ∷ 0x0F ∷ 0x01 ∷ 0x00 ∷ 0x64 ∷ 0x2C ∷ 0x01
    ∷ 0x21 ∷ 0x07 ∷ 0x0A ∷ 0x00 ∷ 0x00 ∷ 0x00
    ∷ 0x07 ∷ 0x04 ∷ 0x01 ∷ 0x69
    ∷ 0x0F ∷ 0x01 ∷ 0x01 ∷ 0x64 ∷ 0x78 ∷ 0x00
    ∷ 0x07 ∷ 0x04 ∷ 0x01 ∷ 0x69 ∷ [])

-- what its first 14 records stand for
abbrev pub session_before : List Step
session_before = (Split 120 ∷ Assign 0 (range 100 120) ∷ RequestGuard 0 (range 100 120) ∷ Deliver 2 ∷ Respond 2 ∷ Write 0 105 7 ∷ Write 0 106 8 ∷ Deliver 3 ∷ Deliver 4 ∷ Respond 3 ∷ Respond 4 ∷ Write 0 105 9 ∷ Read 0 106 ∷ Assign 1 (range 100 120) ∷ [])

-- and those between the player's
abbrev pub session_others : Others
session_others = others (Split 100 ∷ Read 0 106 ∷ Lose 7 ∷ []) (Deliver 5 ∷ Assign 1 (range 120 130) ∷ []) (RestartTablet 105 ∷ Load 105 4 ∷ []) (Respond 5 ∷ Deliver 10 ∷ []) (RestartPlayer 0 ∷ []) (Assign 0 (range 100 300) ∷ Respond 10 ∷ [])

-- and the last two
abbrev pub session_after : List Step
session_after = (Assign 1 (range 100 120) ∷ Read 1 105 ∷ [])

-- it holds the records of the promise in this order
pub session_holds :
    let s = state_after fresh session_before in
    steps first_read_session 16384 5460 ≡ session_before ++ (line s 1 (range 100 120) 105 session_others ++ session_after)
unfolding state_after unbroken tablet_first tablet_end steps_from fields_length record_length fields map_of step_of tested begins
session_holds = refl

-- and all is there that is supposed
pub session_supposed : let s = state_after fresh session_before in all (supposed s 1 (range 100 120) 105 session_others) ≡ true
unfolding state_after unbroken tablet_first tablet_end
session_supposed = refl
