-- Fields of any widths under any map: what was written is read back, and what is read is what stands there.
-- Assumes nothing.
use mathlib.Core.Path.{◌≡◌, ◌∙◌, refl, ap}
use mathlib.Core.Bool.{Bool, true, false, cond}
use mathlib.Core.List.{List, [], ◌∷◌, ◌++◌, append_assoc}
use Prim.Native.Nat.{ℕ, zero, suc, ◌+◌, ◌*◌, ◌/◌, ◌%◌, ◌≤◌, ◌<◌}
use native.Mathlib.Omega.{arith}
use native.Mathlib.Nat.{not-suc-le-zero}
use native.Mathlib.Numerals.{add-one}
use lib.ListN.{length, get_or, take, drop, length-append}
use borrow.Author.Tests.{eq-eqb}
use lib.Seq.{get_or-append_seam, drop-cons, drop-drop, take-add, append_snoc}
use Rattle.players.specs.Kinds.{stands}
use Rattle.players.proofs.StepCases.{bits}
use Rattle.session.specs.Layout.{fields_length, number, bytes, fields, field_bytes}
use Rattle.session.specs.Records.{Bytes}
use Rattle.session.specs.Fields.{standing}

-- ---- numbers

length-bytes : (w v : ℕ) → length (bytes w v) ≡ w
length-bytes zero v = refl
length-bytes (suc zero) v = refl
length-bytes (suc (suc w)) v = ap suc (length-bytes (suc w) (v / 256))

-- a number is read back from its bytes, which stand after `front`
number_back : (w v : ℕ) (front rest : List ℕ) → 1 ≤ w → number w (front ++ (bytes w v ++ rest)) (length front) ≡ v
number_back zero v front rest h = absurd (not-suc-le-zero h)
number_back (suc zero) v front rest h = get_or-append_seam front v rest 0
number_back (suc (suc w)) v front rest h =
    let b = v % 256 in
    let more = bytes (suc w) (v / 256) ++ rest in
    let e : length (front ++ (b ∷ [])) ≡ length front + 1 = length-append front (b ∷ []) in
    let n : number (suc w) (front ++ (b ∷ more)) (length front + 1) ≡ v / 256 =
    rw (← e, ← append_snoc front b more) (number_back (suc w) (v / 256) (front ++ (b ∷ [])) rest (omega arith)) in
    let f : get_or (front ++ (b ∷ more)) (length front) 0 ≡ b = get_or-append_seam front b more 0 in
    omega (arith, n, f)

-- ---- fields

-- a field has a byte
abbrev pub Wide : List ℕ → Type 0
Wide [] = Unit {0}
Wide (w ∷ ws) = (1 ≤ w) × Wide ws

pub length-fields : (ws : List ℕ) (m : ℕ) (vs : List ℕ) → length (field_bytes ws m vs) ≡ fields_length ws m
unfolding field_bytes fields_length
length-fields [] m vs = refl
length-fields (w ∷ ws) m vs = by_bit (stands m) (length-fields ws (m / 2))
  where
    by_bit : (b : Bool) → ((vs : List ℕ) → length (field_bytes ws (m / 2) vs) ≡ fields_length ws (m / 2))
        → length (cond b (bytes w (get_or vs 0 0) ++ field_bytes ws (m / 2) (drop 1 vs)) (field_bytes ws (m / 2) vs)) ≡ cond b (w + fields_length ws (m / 2)) (fields_length ws (m / 2))
    by_bit true h = length-append (bytes w (get_or vs 0 0)) _ ∙ rw (length-bytes, h (drop 1 vs))
    by_bit false h = h vs

-- the fields vs, one for each bit that stands, are read back from their bytes, which stand after `front`
pub fields_back : (ws : List ℕ) (m : ℕ) (vs front rest : List ℕ) → Wide ws → length vs ≡ bits (length ws) m
    → fields ws m (front ++ (field_bytes ws m vs ++ rest)) (length front) ≡ vs
unfolding fields field_bytes
fields_back [] m [] front rest p h = refl
fields_back [] m (v ∷ vs) front rest p h = absurd (omega arith)
fields_back (w ∷ ws) m vs front rest p h = by_bit (stands m) vs (λ us before. fields_back ws (m / 2) us before rest p.1) h
  where
    by_bit : (b : Bool) (vs : List ℕ)
        → ((us before : List ℕ) → length us ≡ bits (length ws) (m / 2) → fields ws (m / 2) (before ++ (field_bytes ws (m / 2) us ++ rest)) (length before) ≡ us)
        → length vs ≡ cond b (suc (bits (length ws) (m / 2))) (bits (length ws) (m / 2)) → (
        let s = front ++ (cond b (bytes w (get_or vs 0 0) ++ field_bytes ws (m / 2) (drop 1 vs)) (field_bytes ws (m / 2) vs) ++ rest) in
        cond b (number w s (length front) ∷ fields ws (m / 2) s (length front + w)) (fields ws (m / 2) s (length front)) ≡ vs
        )
    by_bit false vs back h = back vs front h
    by_bit true [] back h = absurd (omega arith)
    by_bit true (v ∷ vs) back h =
        let more = field_bytes ws (m / 2) vs in
        let e : length (front ++ bytes w v) ≡ length front + w = length-append front (bytes w v) ∙ rw length-bytes in
        rw (append_assoc (bytes w v) more rest, number_back w v front (more ++ rest) p.0, ← append_assoc front (bytes w v) (more ++ rest), ← e)
        (ap (λ (l : List ℕ). v ∷ l) (back vs (front ++ bytes w v) (omega arith)))

-- there are as many fields as bits that stand
pub count_fields : (ws : List ℕ) (m : ℕ) (s : List ℕ) (at : ℕ) → length (fields ws m s at) ≡ bits (length ws) m
unfolding fields
count_fields [] m s at = refl
count_fields (w ∷ ws) m s at = by_bit (stands m) (count_fields ws (m / 2) s)
  where
    by_bit : (b : Bool) → ((at : ℕ) → length (fields ws (m / 2) s at) ≡ bits (length ws) (m / 2))
        → length (cond b (number w s at ∷ fields ws (m / 2) s (at + w)) (fields ws (m / 2) s at)) ≡ cond b (suc (bits (length ws) (m / 2))) (bits (length ws) (m / 2))
    by_bit true h = ap suc (h (at + w))
    by_bit false h = h at

pub count_standing : (m : ℕ) (vs : List ℕ) → length (standing m vs) ≡ bits (length vs) m
unfolding standing
count_standing m [] = refl
count_standing m (v ∷ vs) = by_bit (stands m) (count_standing (m / 2) vs)
  where
    by_bit : (b : Bool) → length (standing (m / 2) vs) ≡ bits (length vs) (m / 2)
        → length (cond b (v ∷ standing (m / 2) vs) (standing (m / 2) vs)) ≡ cond b (suc (bits (length vs) (m / 2))) (bits (length vs) (m / 2))
    by_bit true h = ap suc h
    by_bit false h = h

-- the first of them, where its bit stands
pub first_standing : (m v : ℕ) (vs : List ℕ) → m % 2 ≡ 1 → get_or (standing m (v ∷ vs)) 0 0 ≡ v
unfolding standing
first_standing m v vs odd = rw (eq-eqb (m % 2) 1 odd)

-- ---- what is read is what stands there

low_byte : (b n : ℕ) → b < 256 → (b + 256 * n) % 256 ≡ b
low_byte b n h = omega arith

high_bytes : (b n : ℕ) → b < 256 → (b + 256 * n) / 256 ≡ n
high_bytes b n h = omega arith

module _ (s : List ℕ) (b : Bytes s) where
  number-bytes : (w at : ℕ) → at + w ≤ length s → bytes w (number w s at) ≡ take w (drop at s)
  unfolding Bytes
  number-bytes zero at h = refl
  number-bytes (suc zero) at h = rw (drop-cons s at 0 (omega arith))
  number-bytes (suc (suc w)) at h =
      rw (low_byte (get_or s at 0) (number (suc w) s (at + 1)) (b at), high_bytes (get_or s at 0) (number (suc w) s (at + 1)) (b at), drop-cons s at 0 (omega arith))
      (ap (λ (l : List ℕ). get_or s at 0 ∷ l) (number-bytes (suc w) (at + 1) (omega arith) ∙ rw (add-one at)))

  pub field_bytes_back : (ws : List ℕ) (m at : ℕ) → at + fields_length ws m ≤ length s
      → field_bytes ws m (fields ws m s at) ≡ take (fields_length ws m) (drop at s)
  unfolding fields_length fields field_bytes
  field_bytes_back [] m at h = refl
  field_bytes_back (w ∷ ws) m at h = by_bit (stands m) (field_bytes_back ws (m / 2)) h
    where
      by_bit : (b : Bool)
          → ((at : ℕ) → at + fields_length ws (m / 2) ≤ length s → field_bytes ws (m / 2) (fields ws (m / 2) s at) ≡ take (fields_length ws (m / 2)) (drop at s))
          → at + cond b (w + fields_length ws (m / 2)) (fields_length ws (m / 2)) ≤ length s → (
          let vs = cond b (number w s at ∷ fields ws (m / 2) s (at + w)) (fields ws (m / 2) s at) in
          cond b (bytes w (get_or vs 0 0) ++ field_bytes ws (m / 2) (drop 1 vs)) (field_bytes ws (m / 2) vs)
          ≡ take (cond b (w + fields_length ws (m / 2)) (fields_length ws (m / 2))) (drop at s)
          )
      by_bit false back h = back at h
      by_bit true back h =
          rw (number-bytes w at (omega arith), back (at + w) (omega arith), take-add w (fields_length ws (m / 2)) (drop at s), drop-drop w at s)
