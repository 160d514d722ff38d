-- What was written reads back as the same step, and the bytes that are accepted for a step are the only ones for it.
-- Assumes nothing.
use mathlib.Core.Path.{◌≡◌, ◌∙◌, refl, sym, ap, subst}
use mathlib.Core.Bool.{true, false}
use mathlib.Core.List.{List, [], ◌∷◌, ◌++◌, append-nil}
use Prim.Native.Nat.{ℕ, suc, ◌%◌, ◌≤◌}
use native.Mathlib.Omega.{arith}
use lib.Dec.{lit≤}
use lib.ListN.{length, get_or, take, drop, length-append}
use lib.Seq.{take-add, length-take-le}
use borrow.Author.Tests.{eq-eqb}
use Rattle.requests.specs.Answers.{Numbers, gives, refused}
use Rattle.players.specs.declared.Step.{Step}
use Rattle.players.specs.Kinds.{map_of, in_force, kind_and_fields, kind, step_of, Fits}
use Rattle.players.proofs.StepCases.{bits, known}
use Rattle.players.proofs.KindLaws.{kind_map}
use Rattle.session.specs.Layout.{widths, record_length, fields_length, fields, field_bytes}
use Rattle.session.specs.Decoded.{Decoded, Record, Refused}
use Rattle.session.specs.Fields.{standing}
use Rattle.session.specs.Records.{unknown_kind, map_at, kind_at, fields_at, decode, of_numbers, Decodes, record_of, encode, Bytes}
use Rattle.session.proofs.Tested.{Accepted, accepted, Outcome, refuses, accepts, outcome}
use Rattle.session.proofs.FieldLaws.{length-fields, count_standing, first_standing, fields_back, field_bytes_back}
use Rattle.session.proofs.StepLaws.{Reads, reads, fits_read}

-- ---- what was written

-- the length of a step's record
pub length-encode : (x : Step) → length (encode x) ≡ record_length (map_of (kind x))
unfolding record_length
length-encode x = let e = length-fields widths (map_of (kind x)) (kind_and_fields x) in omega arith

-- a kind, as many numbers as its map has bits, that kind first, and their record
module _ (k : ℕ) (force : in_force k ≡ true) (vs : List ℕ) (n : length vs ≡ bits 6 (map_of k)) (h : get_or vs 0 0 ≡ k) (rest : List ℕ) where
  abbrev m : ℕ
  m = map_of k

  abbrev bytes : List ℕ
  bytes = m ∷ field_bytes widths m vs

  fields_read : fields_at (bytes ++ rest) ≡ vs
  fields_read = fields_back widths m vs (m ∷ []) rest (lit≤ tt, (lit≤ tt, (lit≤ tt, (lit≤ tt, (lit≤ tt, (lit≤ tt, tt)))))) n

  kind_read : kind_at (bytes ++ rest) ≡ k
  unfolding fields
  kind_read =
      let e = ap (λ (l : List ℕ). get_or l 0 0) fields_read ∙ h in
      rw (eq-eqb (m % 2) 1 (kind_map k force).odd) at e

  written_accepted : Accepted (bytes ++ rest)
  unfolding record_length
  written_accepted =
      let good = kind_map k force in
      let a = length-append bytes rest in
      let l = length-fields widths m vs in
      accepted (bytes ++ rest) (λ e. omega arith) good.low (omega arith) good.odd (rw kind_read force) (rw kind_read)

  -- it is read as the step that they make
  pub numbers_read : decode (bytes ++ rest) ≡ Record (step_of k vs) (record_length m)
  numbers_read = written_accepted.takes Decoded Refused _ ∙ rw (kind_read, fields_read)

-- a record that was written reads back as the same step
pub read_back : (x : Step) (rest : List ℕ) → decode (encode x ++ rest) ≡ Record x (length (encode x))
read_back x rest =
    let k = known x in
    numbers_read (kind x) k.force (kind_and_fields x) k.fields refl rest ∙ rw (k.same, length-encode x)

-- six numbers: their record is read as the step of the kind with those of its fields
module _ (k : ℕ) (us : List ℕ) (n : length us ≡ 5) where
  pub no_kind : in_force k ≡ false → Refused unknown_kind ≡ of_numbers (k ∷ us)
  no_kind h = rw h

  pub record_read : in_force k ≡ true → decode (record_of (k ∷ us)) ≡ of_numbers (k ∷ us)
  record_read force =
      let m = map_of k in
      let vs = standing m (k ∷ us) in
      let count : length vs ≡ bits 6 m = count_standing m (k ∷ us) ∙ ap (λ (i : ℕ). bits (suc i) m) n in
      rw force
      (ap decode (sym (append-nil (record_of (k ∷ us)))) ∙ numbers_read k force vs count (first_standing m k us (kind_map k force).odd) [])

-- ---- what is accepted

-- a record that passes all tests
module _ (s : List ℕ) (a : Accepted s) where
  read : Reads s (kind_at s)
  read = reads s (kind_at s) a.force refl

  pub record_decodes : (k : ℕ) → k ≡ kind_at s → (x : Step) → x ≡ step_of k (fields widths (map_of k) s 1) → (n : ℕ) → n ≡ record_length (map_at s) → Decodes s (Record x n)
  record_decodes k ek x ex n en =
      let e : x ≡ step_of (kind_at s) (fields_at s) = ex ∙ rw (ek, a.map) in
      record {
        answer = rw (a.takes Decoded Refused _, e, en);
        numbered =
            rw (a.takes Numbers refused _, en)
            (ap (λ (vs : List ℕ). gives (record_length (map_at s) ∷ vs)) (ap kind_and_fields e ∙ rw a.map read.whole));
      }

-- a record that has a kind has two bytes
pub odd_length : (m : ℕ) → m % 2 ≡ 1 → 2 ≤ record_length m
unfolding record_length fields_length
odd_length m e = rw (eq-eqb (m % 2) 1 e) (omega arith)

-- what the decoder accepted
record Found (s : List ℕ) (x : Step) (n : ℕ) : Type 1 where
  passed : Accepted s
  step : step_of (kind_at s) (fields_at s) ≡ x
  size : record_length (map_at s) ≡ n

found : (s : List ℕ) (x : Step) (n : ℕ) → decode s ≡ Record x n → Found s x n
found s x n h = by (outcome s)
  where
    by : Outcome s → Found s x n
    by (refuses m r) = absurd (let e = sym (r Decoded Refused _) ∙ h in let z : ◌≡◌ {A = ℕ} 0 1 = cc in omega arith)
    by (accepts a) =
        let e : Record (step_of (kind_at s) (fields_at s)) (record_length (map_at s)) ≡ Record x n = sym (a.takes Decoded Refused _) ∙ h in
        record { passed = a; step = cc; size = cc }

-- an accepted record has a byte at least, and lies within what was handed in
pub within : (s : List ℕ) (x : Step) (n : ℕ) → decode s ≡ Record x n → (1 ≤ n) × (n ≤ length s)
unfolding record_length
within s x n h =
    let f = found s x n h in
    (omega (arith, f.size), omega (arith, f.size, f.passed.long))

first_byte : (s : List ℕ) → 1 ≤ length s → (rest : List ℕ) → take 1 s ++ rest ≡ map_at s ∷ rest
first_byte [] h rest = absurd (omega arith)
first_byte (b ∷ s) h rest = refl

module _ (s : List ℕ) (x : Step) (n : ℕ) (b : Bytes s) (h : decode s ≡ Record x n) where
  -- the bytes accepted for a step are those of its record: no others are accepted for it
  pub only_bytes : take n s ≡ encode x
  unfolding record_length
  only_bytes =
      let f = found s x n h in
      let a = f.passed in
      let m = map_at s in
      let r = read s a in
      let k : kind x ≡ kind_at s = ap kind (sym f.step) ∙ rw a.map r.kinds in
      let v : kind_and_fields x ≡ fields_at s = ap kind_and_fields (sym f.step) ∙ rw a.map r.whole in
      let e : encode x ≡ m ∷ field_bytes widths m (fields_at s) = rw (k, v, a.map) in
      ap (λ (i : ℕ). take i s) (sym f.size)
      ∙ take-add 1 (fields_length widths m) s
      ∙ first_byte s (omega (arith, a.some)) (take (fields_length widths m) (drop 1 s))
      ∙ ap (λ (l : List ℕ). m ∷ l) (sym (field_bytes_back s b widths m 1 (omega (arith, a.long))))
      ∙ sym e

  pub only_length : n ≡ length (encode x)
  only_length = sym (length-take-le n s (within s x n h).1) ∙ ap length only_bytes

  -- and its entries are bytes
  pub decoded_fits : Fits x
  decoded_fits =
      let f = found s x n h in
      let a = f.passed in
      let k : step_of (kind_at s) (fields widths (map_of (kind_at s)) s 1) ≡ x = rw (← a.map) f.step in
      subst Fits k (fits_read s (kind_at s) a.force refl b)
