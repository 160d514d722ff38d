-- The step of six numbers (session/specs/Fields), or why they stand for none. Quoted words are document 01's.
-- Assumes nothing.
use Rattle.std.specs.Prelude.{Result, Ok, Err, Bool, true, cond, ◌&&◌, List, [], ◌∷◌, ℕ, ◌/◌, eqb, get_or, drop}
use Rattle.players.specs.declared.Step.{Step}
use Rattle.players.specs.Kinds.{stands, map_of, in_force, step_of}
use Rattle.session.specs.Records.{unknown_kind, wrong_fields}
use Rattle.session.specs.Fields.{standing}
use Rattle.store.specs.declared.refusal.Refusal.{Refusal}
use Rattle.store.specs.Refusals.{number_of}

-- ---- numbers for the bits of any map, from bit 0 on

-- those whose bit does not stand in m are 0
unfoldable pub others_zero : ℕ → List ℕ → Bool
others_zero m [] = true
others_zero m (v ∷ vs) = cond (stands m) (others_zero (m / 2) vs) (eqb v 0 && others_zero (m / 2) vs)

-- the numbers of two lists are the same, one by one
unfoldable pub agree : List ℕ → List ℕ → Bool
agree [] ws = true
agree (v ∷ vs) ws = eqb v (get_or ws 0 0) && agree vs (drop 1 ws)

-- ---- a step

-- the step of some numbers, or the number of a refusal
pub data Stated : Type 0 where
  Taken : Step → Stated
  Refused : ℕ → Stated

abbrev pub stated_of : Result Step Refusal → Stated
stated_of (Ok x) = Taken x
stated_of (Err e) = Refused (number_of e)

-- the step of these numbers; 26 "a kind not in force" (document 02 §1), 27 "other fields than the kind's": one that it lacks is not 0
unfoldable pub stated : List ℕ → Stated
stated vs =
    let k = get_or vs 0 0 in
    cond (in_force k)
    (cond (others_zero (map_of k) vs) (Taken (step_of k (standing (map_of k) vs))) (Refused wrong_fields))
    (Refused unknown_kind)

-- by cases: a step, or a refusal
abbrev pub on_stated : {A : Type 0} → Stated → (Step → A) → (ℕ → A) → A
on_stated (Taken x) taken refused = taken x
on_stated (Refused n) taken refused = refused n
