-- Records: what the bytes from a place of the session on stand for, and the bytes of a step. Quoted words are document 01's.
-- Assumes nothing.
use Rattle.std.specs.Prelude.{◌≡◌, cond, List, [], ◌∷◌, ◌++◌, ℕ, ◌<◌, length, get_or, ltb, leb, eqb}
use Rattle.requests.specs.Answers.{Numbers, gives, refused}
use Rattle.players.specs.declared.Step.{Step}
use Rattle.players.specs.Kinds.{stands, map_of, in_force, kind_and_fields, kind, step_of}
use Rattle.session.specs.Layout.{widths, record_length, fields, field_bytes}
use Rattle.session.specs.Fields.{standing}
use Rattle.session.specs.Decoded.{Decoded, Record, Refused}

-- ---- refusals

-- "record cut short, or no byte"
abbrev pub cut_short : ℕ
cut_short = 24

-- "bit 6 or 7 set"
abbrev pub unknown_field : ℕ
unknown_field = 25

-- document 02 §1, "26 means a kind not in force"
abbrev pub unknown_kind : ℕ
unknown_kind = 26

-- "kind missing, or other fields than the kind's"
abbrev pub wrong_fields : ℕ
wrong_fields = 27

-- ---- reading

-- of the bytes s, which begin at the record: its map, the byte of its kind, and its kind and fields
abbrev pub map_at : List ℕ → ℕ
map_at s = get_or s 0 0

abbrev pub kind_at : List ℕ → ℕ
kind_at s = get_or s 1 0

abbrev pub fields_at : List ℕ → List ℕ
fields_at s = fields widths (map_at s) s 1

-- "For a record: 24 if empty, 25, 24, 27 if kind is missing, 26, 27": the first that applies, or the record is taken
unfoldable pub tested : {A : Type 0} → List ℕ → (ℕ → A) → A → A
tested s refused taken =
    cond (eqb (length s) 0) (refused cut_short)
    (cond (leb 64 (map_at s)) (refused unknown_field)
    (cond (ltb (length s) (record_length (map_at s))) (refused cut_short)
    (cond (stands (map_at s))
    (cond (in_force (kind_at s))
    (cond (eqb (map_at s) (map_of (kind_at s))) taken (refused wrong_fields))
    (refused unknown_kind))
    (refused wrong_fields))))

-- the decoder's answer
abbrev pub decode : List ℕ → Decoded
decode s = tested s Refused (Record (step_of (kind_at s) (fields_at s)) (record_length (map_at s)))

-- the step of the kind with these six numbers, those that it lacks passed over: what its record reads as, or 26
abbrev pub of_numbers : List ℕ → Decoded
of_numbers vs =
    let k = get_or vs 0 0 in
    cond (in_force k) (Record (step_of k (standing (map_of k) vs)) (record_length (map_of k))) (Refused unknown_kind)

-- ---- the document's numbers

-- those of each case of the decoder's answer: 0 with the record's length, the step's kind and its fields, or the refusal's number and two zeros
abbrev pub numbers : Decoded → Numbers
numbers (Record x n) = gives (n ∷ kind_and_fields x)
numbers (Refused n) = refused n

-- those of bytes, by the map and the widths alone
abbrev pub record_numbers : List ℕ → Numbers
record_numbers s = tested s refused (gives (record_length (map_at s) ∷ fields_at s))

-- what the decoder promises: the answer, and its numbers
pub record Decodes (s : List ℕ) (d : Decoded) : Type 0 where
  pub answer : d ≡ decode s
  pub numbered : numbers d ≡ record_numbers s

-- ---- writing

-- the record of six numbers: the kind's map, and those that stand in it
abbrev pub record_of : List ℕ → List ℕ
record_of vs = let m = map_of (get_or vs 0 0) in m ∷ field_bytes widths m (standing m vs)

-- the kind's map, the kind and its fields
abbrev pub encode : Step → List ℕ
encode x = map_of (kind x) ∷ field_bytes widths (map_of (kind x)) (kind_and_fields x)

-- the records of steps, one after the other
abbrev pub encode_all : List Step → List ℕ
encode_all [] = []
encode_all (x ∷ xs) = encode x ++ encode_all xs

-- all elements are bytes
unfoldable pub Bytes : List ℕ → Type 0
Bytes s = (i : ℕ) → get_or s i 0 < 256
