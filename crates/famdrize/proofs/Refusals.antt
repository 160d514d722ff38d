-- "A refusal gives its number and two zeros and alters no table or buffer": of the exported calls that take a step, preview it or write its record
-- by its six numbers, and of the one that reads a record.
-- Assumes nothing.
use mathlib.Core.Path.{◌≡◌, refl, ap}
use mathlib.Core.List.{List, [], ◌∷◌}
use Prim.Native.Nat.{ℕ, ◌≤◌}
use native.Mathlib.Omega.{arith}
use lib.ListN.{get_or}
use Rattle.players.specs.Replies.{first_refusal, refusal}
use Rattle.players.specs.Calls.{Done, left}
use Rattle.players.specs.Played.{taken}
use Rattle.players.proofs.Refusals.{Keeps as KeepsTables, step_keeps}
use Rattle.session.specs.Decoded.{Decoded, Record, Refused}
use Rattle.session.specs.Records.{encode}
use Rattle.session.specs.Written.{wrote, written}
use Rattle.session.proofs.Refusals.{Keeps as KeepsBuffer, written_keeps}
use Rattle.famdrize.specs.Fields.{Stated}
use Rattle.famdrize.specs.Fields.{Taken, Refused as NotStated}
use Rattle.famdrize.specs.Fields.{stated, on_stated}
use Rattle.famdrize.specs.Calls.{stepped, stepped_preview, recorded, decoded}

-- a step, also one that is refused before the tables are looked at
pub stepped_keeps : (vs st t : List ℕ) → KeepsTables st t (stepped vs st t)
stepped_keeps vs st t = by (stated vs)
  where
    by : (d : Stated) → KeepsTables st t (on_stated d (λ x. taken x st t) (λ n. left (refusal n) st t))
    by (Taken x) = step_keeps x st t
    by (NotStated n) = record { kept = λ h. refl }

-- a preview of it: the number and two zeros
pub stepped_preview_keeps : (vs st t : List ℕ) → first_refusal ≤ (stepped_preview vs st t).code → stepped_preview vs st t ≡ refusal (stepped_preview vs st t).code
stepped_preview_keeps vs st t h = ap (λ (d : Done). d.reply) ((stepped_keeps vs st t).kept h)

-- a record written
pub recorded_keeps : (vs out : List ℕ) → KeepsBuffer out (recorded vs out)
recorded_keeps vs out = by (stated vs)
  where
    by : (d : Stated) → KeepsBuffer out (on_stated d (λ x. written (encode x) out) (λ n. wrote (refusal n) out))
    by (Taken x) = written_keeps (encode x) out
    by (NotStated n) = record { kept = λ h. refl }

-- a record read: the number and zeros
pub decoded_keeps : (d : Decoded) → 21 ≤ get_or (decoded d) 0 0 → decoded d ≡ get_or (decoded d) 0 0 ∷ 0 ∷ 0 ∷ 0 ∷ 0 ∷ 0 ∷ 0 ∷ 0 ∷ []
decoded_keeps (Record x n) h = absurd (omega arith)
decoded_keeps (Refused n) h = refl
