-- The numbers of a record: its length is small, they give its step back, and what was written by numbers reads back as the same numbers.
-- Assumes nothing.
use mathlib.Core.Path.{◌≡◌, ◌∙◌, sym, ap}
use mathlib.Core.Bool.{Bool, true, false, cond}
use mathlib.Core.List.{List, [], ◌∷◌, ◌++◌}
use Prim.Native.Nat.{ℕ, ◌+◌, ◌/◌, ◌≤◌}
use native.Mathlib.Omega.{arith}
use lib.ListN.{length}
use Rattle.players.specs.declared.Step.{Step}
use Rattle.session.specs.Decoded.{Decoded, Record, Refused}
use Rattle.players.specs.Kinds.{stands, numbers_of}
use Rattle.session.specs.Layout.{widths, fields_length, record_length}
use Rattle.session.specs.Records.{map_at, decode, encode}
use Rattle.session.specs.Fields.{six}
use Rattle.session.proofs.Tested.{Outcome, refuses, accepts, outcome}
use Rattle.session.proofs.RoundTrip.{read_back}
use Rattle.famdrize.specs.Fields.{Taken}
use Rattle.famdrize.specs.Fields.{stated}
use Rattle.famdrize.specs.Calls.{decoded}
use Rattle.famdrize.proofs.FieldLaws.{numbers_back, only_numbers}

-- the bytes of all fields
abbrev total : List ℕ → ℕ
total [] = 0
total (w ∷ ws) = w + total ws

at_most_total : (ws : List ℕ) (m : ℕ) → fields_length ws m ≤ total ws
unfolding fields_length
at_most_total [] m = omega arith
at_most_total (w ∷ ws) m = by_bit (stands m) (at_most_total ws (m / 2))
  where
    by_bit : (b : Bool) → fields_length ws (m / 2) ≤ total ws
        → cond b (w + fields_length ws (m / 2)) (fields_length ws (m / 2)) ≤ w + total ws
    by_bit true h = omega arith
    by_bit false h = omega arith

-- a record that is read has at most 14 bytes
pub short_read : (s : List ℕ) (x : Step) (n : ℕ) → Record x n ≡ decode s → n ≤ 14
unfolding record_length
short_read s x n h = by (outcome s)
  where
    by : Outcome s → n ≤ 14
    by (refuses m r) = absurd (let e = h ∙ r Decoded Refused _ in let z : ◌≡◌ {A = ℕ} 0 1 = cc in omega arith)
    by (accepts a) =
        let e = h ∙ a.takes Decoded Refused _ in
        let l : n ≡ record_length (map_at s) = cc in
        omega (arith, at_most_total widths (map_at s))

-- records with the same eight numbers are the same
pub same_record : (x y : Step) (n m : ℕ) → decoded (Record x n) ≡ decoded (Record y m) → Record x n ≡ Record y m
same_record x y n m h =
    let e : numbers_of x ≡ numbers_of y = cc in
    let t : Taken x ≡ Taken y = sym (numbers_back x) ∙ ap stated e ∙ numbers_back y in
    cc

-- the record of a step that is stated by six numbers reads back as these numbers
pub numbers_read_back : (k p e h v s : ℕ) (x : Step) (rest : List ℕ) → stated (six k p e h v s) ≡ Taken x
    → decoded (decode (encode x ++ rest)) ≡ 0 ∷ length (encode x) ∷ six k p e h v s
numbers_read_back k p e h v s x rest is =
    ap decoded (read_back x rest) ∙ ap (λ (l : List ℕ). 0 ∷ length (encode x) ∷ l) (only_numbers k p e h v s x is)
