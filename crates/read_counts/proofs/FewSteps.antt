-- A session stands for fewer steps than the limit of a count: each of its records has a byte at least.
-- Assumes nothing.
use mathlib.Core.Path.{◌≡◌, refl}
use mathlib.Core.Bool.{Bool, true, false, cond}
use mathlib.Core.List.{List, [], ◌∷◌}
use Prim.Native.Nat.{ℕ, zero, suc, ◌≤◌}
use native.Mathlib.Omega.{arith}
use lib.Dec.{ltb}
use lib.ListN.{length, drop, length-drop}
use borrow.Author.Tests.{ltb-false}
use Rattle.counters.specs.Model.{most}
use Rattle.session.specs.Decoded.{Decoded, Record, Refused}
use Rattle.session.specs.Records.{decode}
use Rattle.session.specs.Mark.{mark, marked}
use Rattle.session.specs.Runs.{longest, allowed, on_record, steps_from, steps}
use Rattle.session.proofs.RoundTrip.{within}

fewer : (left : ℕ) (part : List ℕ) → length (steps_from left part) ≤ length part
unfolding steps_from
fewer zero part = omega arith
fewer (suc left) part = by (decode part) refl (λ n. fewer left (drop n part))
  where
    by : (d : Decoded) → decode part ≡ d → ((n : ℕ) → length (steps_from left (drop n part)) ≤ length (drop n part))
        → length (on_record d (λ x n. x ∷ steps_from left (drop n part)) (λ n. [])) ≤ length part
    by (Record x n) e i = omega (arith, i n, length-drop n part, (within part x n e).0, (within part x n e).1)
    by (Refused n) e i = omega arith

pub few_steps : (session : List ℕ) (budget places : ℕ) → length (steps session budget places) ≤ most
few_steps session budget places = by (ltb longest (length session)) refl (marked session)
  where
    by : (a : Bool) → ltb longest (length session) ≡ a → (m : Bool) → length (cond a [] (cond m (steps_from (allowed budget places) (drop (length mark) session)) [])) ≤ most
    by true e m = omega arith
    by false e true = omega (arith, fewer (allowed budget places) (drop 4 session), length-drop 4 session, ltb-false longest (length session) e)
    by false e false = omega arith
