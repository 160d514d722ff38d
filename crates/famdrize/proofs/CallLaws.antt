-- A call by six numbers: it takes the step that they stand for, or none and is refused.
-- Assumes nothing.
use mathlib.Core.Path.{◌≡◌, refl}
use mathlib.Core.List.{List, [], ◌∷◌}
use Prim.Native.Nat.{ℕ, ◌<◌}
use Rattle.players.specs.declared.Step.{Step}
use Rattle.players.specs.Replies.{refusal}
use Rattle.players.specs.Calls.{left}
use Rattle.players.specs.Kinds.{Fits}
use Rattle.players.specs.Played.{taken}
use Rattle.session.specs.Fields.{six}
use Rattle.famdrize.specs.Fields.{Stated}
use Rattle.famdrize.specs.Fields.{Taken, Refused}
use Rattle.famdrize.specs.Fields.{stated}
use Rattle.famdrize.specs.Calls.{stepped, step_taken}
use Rattle.famdrize.proofs.FieldLaws.{stated_fits}

pub data ByNumbers (vs : List ℕ) : Type 0 where
  takes : (x : Step) → Fits x → step_taken vs ≡ x ∷ [] → ((st t : List ℕ) → stepped vs st t ≡ taken x st t) → ByNumbers vs
  refuses : (n : ℕ) → step_taken vs ≡ [] → ((st t : List ℕ) → stepped vs st t ≡ left (refusal n) st t) → ByNumbers vs

pub by_numbers : (k p e h v s : ℕ) → e < 256 → ByNumbers (six k p e h v s)
by_numbers k p e h v s b = by (stated (six k p e h v s)) refl
  where
    by : (d : Stated) → stated (six k p e h v s) ≡ d → ByNumbers (six k p e h v s)
    by (Taken x) is = takes x (stated_fits k p e h v s x b is) (rw is) (λ st t. rw is)
    by (Refused n) is = refuses n (rw is) (λ st t. rw is)
