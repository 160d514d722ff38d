-- The bytes of a record: those of numbers, the fields of a map one by one, and the record of a step by its six numbers.
-- Assumes nothing.
use mathlib.Core.Path.{◌≡◌, ◌∙◌, refl, ap}
use mathlib.Core.Bool.{Bool, true, false, cond}
use mathlib.Core.List.{List, [], ◌∷◌, ◌++◌, append_assoc, append-nil}
use Prim.Native.Nat.{ℕ, zero, suc, ◌/◌, ◌%◌, ◌<◌}
use native.Mathlib.Omega.{arith}
use lib.ListN.{length, drop, get_or}
use borrow.Author.Tests.{eq-eqb}
use Rattle.std.specs.Int.{w16, w32, to_le_bytes}
use Rattle.players.specs.declared.Step.{Step}
use Rattle.players.specs.Kinds.{stands, map_of, kind_and_fields, kind, spread, numbers_of}
use Rattle.players.proofs.StepCases.{bits, known}
use Rattle.players.proofs.KindLaws.{kind_map}
use Rattle.session.specs.Layout.{widths, bytes, field_bytes}
use Rattle.session.specs.Records.{record_of, encode}
use Rattle.session.specs.Fields.{standing, six}
use Rattle.session.specs.Text.{standing_bytes, standing_in}

-- ---- the fields of a map

-- the first of them, and the others
field_first : (w : ℕ) (ws : List ℕ) (m v : ℕ) (vs : List ℕ)
    → field_bytes (w ∷ ws) m (standing m (v ∷ vs)) ≡ standing_bytes m w v ++ field_bytes ws (m / 2) (standing (m / 2) vs)
unfolding field_bytes standing
field_first w ws m v vs = by_bit (stands m)
  where
    by_bit : (b : Bool) → (
        let us = cond b (v ∷ standing (m / 2) vs) (standing (m / 2) vs) in
        cond b (bytes w (get_or us 0 0) ++ field_bytes ws (m / 2) (drop 1 us)) (field_bytes ws (m / 2) us)
        ≡ cond b (bytes w v) [] ++ field_bytes ws (m / 2) (standing (m / 2) vs)
        )
    by_bit true = refl
    by_bit false = refl

no_fields : (m : ℕ) (vs : List ℕ) → field_bytes [] m vs ≡ []
unfolding field_bytes
no_fields m vs = refl

-- all six
pub six-bytes : (m k p e h v s : ℕ)
    → standing_bytes m 1 k ++ (standing_bytes (m / 2) 1 p ++ (standing_bytes (m / 4) 1 e ++ (standing_bytes (m / 8) 2 h ++ (standing_bytes (m / 16) 4 v ++ standing_bytes (m / 32) 4 s))))
    ≡ field_bytes widths m (standing m (six k p e h v s))
six-bytes m k p e h v s =
    let q2 : m / 2 / 2 ≡ m / 4 = omega arith in
    let q3 : m / 4 / 2 ≡ m / 8 = omega arith in
    let q4 : m / 8 / 2 ≡ m / 16 = omega arith in
    let q5 : m / 16 / 2 ≡ m / 32 = omega arith in
    simp (append_assoc, field_first, no_fields, append-nil, q2, q3, q4, q5)

-- appended one by one, or all at once
grouped : (m : ℕ) (a b c d e f : List ℕ) → ((((((m ∷ []) ++ a) ++ b) ++ c) ++ d) ++ e) ++ f ≡ m ∷ (a ++ (b ++ (c ++ (d ++ (e ++ f)))))
grouped m a b c d e f = simp append_assoc

-- a map and all six, appended one by one
pub appended : (m k p e h v s : ℕ) {hb vb sb l1 l2 l3 l4 l5 l6 l7 : List ℕ} → hb ≡ bytes 2 h → vb ≡ bytes 4 v → sb ≡ bytes 4 s → l1 ≡ m ∷ []
    → l2 ≡ l1 ++ standing_in m (k ∷ []) → l3 ≡ l2 ++ standing_in (m / 2) (p ∷ []) → l4 ≡ l3 ++ standing_in (m / 4) (e ∷ [])
    → l5 ≡ l4 ++ standing_in (m / 8) hb → l6 ≡ l5 ++ standing_in (m / 16) vb → l7 ≡ l6 ++ standing_in (m / 32) sb
    → l7 ≡ m ∷ field_bytes widths m (standing m (six k p e h v s))
appended m k p e h v s eh ev es e1 e2 e3 e4 e5 e6 e7 =
    rw (e7, e6, e5, e4, e3, e2, e1, eh, ev, es) (grouped m (standing_bytes m 1 k) (standing_bytes (m / 2) 1 p) (standing_bytes (m / 4) 1 e) (standing_bytes (m / 8) 2 h) (standing_bytes (m / 16) 4 v) (standing_bytes (m / 32) 4 s)
    ∙ ap (λ (l : List ℕ). m ∷ l) (six-bytes m k p e h v s))

-- the bytes of numbers of two and of four bytes
pub two_bytes : (n : ℕ) → n < 65536 → to_le_bytes w16 n ≡ bytes 2 n
two_bytes n h = let e : n / 256 % 256 ≡ n / 256 = omega arith in rw e

pub four_bytes : (n : ℕ) → n < 4294967296 → to_le_bytes w32 n ≡ bytes 4 n
four_bytes n h =
    let e1 : n / 256 / 256 ≡ n / 65536 = omega arith in
    let e2 : n / 65536 / 256 ≡ n / 16777216 = omega arith in
    let e3 : n / 16777216 % 256 ≡ n / 16777216 = omega arith in
    rw (e1, e2, e3)

-- ---- a step

-- the numbers of the standing bits, spread, are those again
pub standing-spread : (n m : ℕ) (vs : List ℕ) → length vs ≡ bits n m → standing m (spread n m vs) ≡ vs
unfolding standing spread
standing-spread zero m [] h = refl
standing-spread zero m (v ∷ vs) h = absurd (omega arith)
standing-spread (suc n) m vs h = by_bit (stands m) refl vs (standing-spread n (m / 2)) h
  where
    by_bit : (b : Bool) → stands m ≡ b → (vs : List ℕ) → ((us : List ℕ) → length us ≡ bits n (m / 2) → standing (m / 2) (spread n (m / 2) us) ≡ us)
        → length vs ≡ cond b (suc (bits n (m / 2))) (bits n (m / 2))
        → standing m (cond b (get_or vs 0 0 ∷ spread n (m / 2) (drop 1 vs)) (0 ∷ spread n (m / 2) vs)) ≡ vs
    by_bit false e vs back h = rw e (back vs h)
    by_bit true e [] back h = absurd (omega arith)
    by_bit true e (v ∷ vs) back h = rw e (ap (λ (l : List ℕ). v ∷ l) (back vs (omega arith)))

-- the first of a step's numbers is its kind
pub first_number : (x : Step) → get_or (numbers_of x) 0 0 ≡ kind x
unfolding spread
first_number x =
    let m = map_of (kind x) in
    rw (eq-eqb (m % 2) 1 (kind_map (kind x) (known x).force).odd)

-- six numbers put by the map of the step's kind are the step's record
pub encoded : (x : Step) (m : ℕ) (vs : List ℕ) → m ≡ map_of (kind x) → vs ≡ numbers_of x → m ∷ field_bytes widths m (standing m vs) ≡ encode x
encoded x m vs k e = rw (k, e, standing-spread 6 (map_of (kind x)) (kind_and_fields x) (known x).fields)

-- and those put by the map of their kind are their record
pub by_map : (vs : List ℕ) (m : ℕ) → m ≡ map_of (get_or vs 0 0) → m ∷ field_bytes widths m (standing m vs) ≡ record_of vs
by_map vs m e = rw e
