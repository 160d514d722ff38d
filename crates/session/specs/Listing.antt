-- The text of a listing, byte by byte. Quoted words are document 01's.
-- Assumes nothing.
use Rattle.std.specs.Prelude.{◌≡◌, refl, cond, List, [], ◌∷◌, ◌++◌, ℕ, zero, suc, ◌+◌, ◌/◌, ◌%◌, ltb}
use Rattle.store.specs.Model.{unbroken}
use Rattle.store.specs.declared.Reply.{Reply}
use Rattle.players.specs.Rules.{fresh}
use Rattle.players.specs.Kinds.{map_of, step_of}
use Rattle.session.specs.Layout.{fields_length, record_length, fields}
use Rattle.session.specs.Records.{tested}
use Rattle.session.specs.Mark.{begins}
use Rattle.session.specs.Reports.{Report}
use Rattle.session.specs.Runs.{Run, run, run_from}
use Rattle.session.specs.Cases.{worked_session}

-- ---- text

-- a space, and a line feed
abbrev pub space : ℕ
space = 0x20

abbrev pub line_feed : ℕ
line_feed = 0x0A

-- the decimal digits of a number of at most k digits, with no zeros in front
unfoldable pub digits : ℕ → ℕ → List ℕ
digits zero n = []
digits (suc k) n = cond (ltb n 10) ((0x30 + n) ∷ []) (digits k (n / 10) ++ ((0x30 + n % 10) ∷ []))

-- a number of 32 bits has at most ten
abbrev pub decimal : ℕ → List ℕ
decimal n = digits 10 n

-- three numbers, each after a space, and the line's end: "each closed by one line feed"
abbrev pub three : ℕ → ℕ → ℕ → List ℕ
three a b c = space ∷ decimal a ++ (space ∷ decimal b ++ (space ∷ decimal c ++ (line_feed ∷ [])))

-- ---- the lines

-- "step code a b"
abbrev pub header : List ℕ
header = 0x73 ∷ 0x74 ∷ 0x65 ∷ 0x70 ∷ space ∷ 0x63 ∷ 0x6F ∷ 0x64 ∷ 0x65 ∷ space ∷ 0x61 ∷ space ∷ 0x62 ∷ line_feed ∷ []

-- "step ordinal and reply"
abbrev pub reply_line : ℕ → Reply → List ℕ
reply_line n r = decimal n ++ three r.code r.a r.b

-- those of replies, the first with the ordinal n
abbrev pub reply_lines : ℕ → List Reply → List ℕ
reply_lines n [] = []
reply_lines n (r ∷ rs) = reply_line n r ++ reply_lines (n + 1) rs

-- "last, why, records taken, place", after "end"
abbrev pub end_line : Report → List ℕ
end_line r = 0x65 ∷ 0x6E ∷ 0x64 ∷ three r.why r.records r.place

-- of a run: "For a refused run only the header and an end line: its number, 0, 0."
abbrev pub listing : Run → List ℕ
listing r = header ++ (reply_lines 1 r.replies ++ end_line r.report)

-- ---- the program

-- "begins fresh with a budget of 16,384 and 5,460 list places"
abbrev pub budget : ℕ
budget = 16384

abbrev pub places : ℕ
places = 5460

-- what the program prints for a session
abbrev pub printed : List ℕ → List ℕ
printed session = listing (run fresh session budget places)

-- ---- the document's example

abbrev worked_listing : List ℕ
worked_listing =
    0x73 ∷ 0x74 ∷ 0x65 ∷ 0x70 ∷ 0x20 ∷ 0x63 ∷ 0x6F ∷ 0x64 ∷ 0x65 ∷ 0x20 ∷ 0x61 ∷ 0x20 ∷ 0x62 ∷ 0x0A
    ∷ 0x31 ∷ 0x20 ∷ 0x31 ∷ 0x20 ∷ 0x31 ∷ 0x20 ∷ 0x30 ∷ 0x0A
    ∷ 0x32 ∷ 0x20 ∷ 0x31 ∷ 0x20 ∷ 0x32 ∷ 0x20 ∷ 0x30 ∷ 0x0A
    ∷ 0x33 ∷ 0x20 ∷ 0x30 ∷ 0x20 ∷ 0x30 ∷ 0x20 ∷ 0x30 ∷ 0x0A
    ∷ 0x34 ∷ 0x20 ∷ 0x36 ∷ 0x20 ∷ 0x32 ∷ 0x20 ∷ 0x30 ∷ 0x0A
    ∷ 0x35 ∷ 0x20 ∷ 0x31 ∷ 0x20 ∷ 0x33 ∷ 0x20 ∷ 0x30 ∷ 0x0A
    ∷ 0x36 ∷ 0x20 ∷ 0x31 ∷ 0x20 ∷ 0x34 ∷ 0x20 ∷ 0x30 ∷ 0x0A
    ∷ 0x37 ∷ 0x20 ∷ 0x31 ∷ 0x20 ∷ 0x35 ∷ 0x20 ∷ 0x30 ∷ 0x0A
    ∷ 0x38 ∷ 0x20 ∷ 0x30 ∷ 0x20 ∷ 0x30 ∷ 0x20 ∷ 0x30 ∷ 0x0A
    ∷ 0x39 ∷ 0x20 ∷ 0x36 ∷ 0x20 ∷ 0x35 ∷ 0x20 ∷ 0x30 ∷ 0x0A
    ∷ 0x31 ∷ 0x30 ∷ 0x20 ∷ 0x31 ∷ 0x20 ∷ 0x36 ∷ 0x20 ∷ 0x30 ∷ 0x0A
    ∷ 0x31 ∷ 0x31 ∷ 0x20 ∷ 0x30 ∷ 0x20 ∷ 0x30 ∷ 0x20 ∷ 0x30 ∷ 0x0A
    ∷ 0x31 ∷ 0x32 ∷ 0x20 ∷ 0x33 ∷ 0x20 ∷ 0x30 ∷ 0x20 ∷ 0x30 ∷ 0x0A
    ∷ 0x31 ∷ 0x33 ∷ 0x20 ∷ 0x30 ∷ 0x20 ∷ 0x30 ∷ 0x20 ∷ 0x30 ∷ 0x0A
    ∷ 0x31 ∷ 0x34 ∷ 0x20 ∷ 0x32 ∷ 0x20 ∷ 0x30 ∷ 0x20 ∷ 0x30 ∷ 0x0A
    ∷ 0x31 ∷ 0x35 ∷ 0x20 ∷ 0x35 ∷ 0x20 ∷ 0x33 ∷ 0x20 ∷ 0x30 ∷ 0x0A
    ∷ 0x65 ∷ 0x6E ∷ 0x64 ∷ 0x20 ∷ 0x30 ∷ 0x20 ∷ 0x31 ∷ 0x35 ∷ 0x20 ∷ 0x39 ∷ 0x32 ∷ 0x0A ∷ []

-- the document's session prints the document's listing
pub worked : printed worked_session ≡ worked_listing
unfolding unbroken fields_length record_length fields map_of step_of tested begins run_from digits
worked = refl

-- no session prints the header and the end line of a refused run: 23 0 0
pub empty : printed [] ≡ header ++ (0x65 ∷ 0x6E ∷ 0x64 ∷ 0x20 ∷ 0x32 ∷ 0x33 ∷ 0x20 ∷ 0x30 ∷ 0x20 ∷ 0x30 ∷ 0x0A ∷ [])
unfolding begins digits
empty = refl
