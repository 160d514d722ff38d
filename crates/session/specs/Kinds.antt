-- The kinds in force as the variants of an enum: of each its number, and of each number its kind.
-- Assumes nothing.
use Rattle.std.specs.Prelude.{ℕ, ◌==◌, if◌then◌else◌, Result, Ok, Err}
use Rattle.store.specs.declared.refusal.Refusal.{Refusal}
use Rattle.store.specs.declared.refusal.Refusal.TheVariants.{UnknownKind}
use Rattle.session.specs.declared.kinds.Kind.{Kind}
use Rattle.session.specs.declared.kinds.Kind.TheVariants.{Assign, Release, RequestGuard, Read, Write, Deliver, Respond, Abandon, Lose, Split, Merge, RestartTablet, RestartPlayer, FindInterval, Load}

abbrev pub code_of : Kind → ℕ
code_of Assign = 1
code_of Release = 2
code_of RequestGuard = 3
code_of Read = 4
code_of Write = 5
code_of Deliver = 6
code_of Respond = 7
code_of Abandon = 8
code_of Lose = 9
code_of Split = 10
code_of Merge = 11
code_of RestartTablet = 12
code_of RestartPlayer = 13
code_of FindInterval = 14
code_of Load = 15

-- "26 means a kind not in force"
abbrev pub kind_of : ℕ → Result Kind Refusal
kind_of n =
    if n == 1 then Ok Assign
    else (if n == 2 then Ok Release
    else (if n == 3 then Ok RequestGuard
    else (if n == 4 then Ok Read
    else (if n == 5 then Ok Write
    else (if n == 6 then Ok Deliver
    else (if n == 7 then Ok Respond
    else (if n == 8 then Ok Abandon
    else (if n == 9 then Ok Lose
    else (if n == 10 then Ok Split
    else (if n == 11 then Ok Merge
    else (if n == 12 then Ok RestartTablet
    else (if n == 13 then Ok RestartPlayer
    else (if n == 14 then Ok FindInterval
    else (if n == 15 then Ok Load
    else Err UnknownKind))))))))))))))
