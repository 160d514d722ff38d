-- "A refusal gives its number and two zeros and alters no table or buffer": of what writes to a buffer. And the numbers with which a record is
-- refused, none of which refuses a run.
-- Assumes nothing.
use mathlib.Core.Path.{◌≡◌, refl}
use mathlib.Core.List.{List}
use Prim.Native.Nat.{ℕ, ◌≤◌}
use native.Mathlib.Omega.{arith}
use lib.Dec.{ltb, leb, eqb}
use lib.ListN.{length}
use Rattle.players.specs.Replies.{refusal}
use Rattle.requests.proofs.Basics.{cond_elim}
use Rattle.session.specs.Decoded.{Decoded, Record, Refused}
use Rattle.players.specs.Kinds.{stands, map_of, in_force}
use Rattle.session.specs.Layout.{record_length}
use Rattle.session.specs.Records.{cut_short, wrong_fields, map_at, kind_at, tested, decode}
use Rattle.session.specs.Written.{Wrote, wrote, written}

-- ---- writing

pub record Keeps (out : List ℕ) (w : Wrote) : Type 0 where
  pub kept : 21 ≤ w.replied.code → w ≡ wrote (refusal w.replied.code) out

pub written_keeps : (bytes out : List ℕ) → Keeps out (written bytes out)
written_keeps bytes out = cond_elim (Keeps out) (ltb (length out) (length bytes)) _ _ (λ _. record { kept = λ h. refl }) (λ _. record { kept = λ h. absurd (omega arith) })

-- ---- a record's refusal

-- "24 if empty, 25, 24, 27 if kind is missing, 26, 27"
abbrev pub Numbered : Decoded → Type 0
Numbered (Record x n) = Unit {0}
Numbered (Refused n) = (cut_short ≤ n) × (n ≤ wrong_fields)

pub decode_numbered : (s : List ℕ) → Numbered (decode s)
unfolding tested
decode_numbered s =
    let P = Numbered in
    cond_elim P (eqb (length s) 0) _ _ (λ _. (omega arith, omega arith)) (λ _.
    cond_elim P (leb 64 (map_at s)) _ _ (λ _. (omega arith, omega arith)) (λ _.
    cond_elim P (ltb (length s) (record_length (map_at s))) _ _ (λ _. (omega arith, omega arith)) (λ _.
    cond_elim P (stands (map_at s)) _ _ (λ _.
    cond_elim P (in_force (kind_at s)) _ _ (λ _.
    cond_elim P (eqb (map_at s) (map_of (kind_at s))) _ _ (λ _. tt) (λ _. (omega arith, omega arith))) (λ _. (omega arith, omega arith))) (λ _. (omega arith, omega arith)))))
