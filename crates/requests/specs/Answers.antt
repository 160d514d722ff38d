-- The numbers of an answer that is an enum: "Where an answer is an enum, a definition gives, for each of its cases, this paper's number and
-- values."
-- Assumes nothing.
use Rattle.std.specs.Prelude.{List, [], ◌∷◌, ℕ}

-- 0 or the number of a refusal, and values
pub record Numbers : Type 0 where
  pub code : ℕ
  pub values : List ℕ

-- no refusal, with these values
abbrev pub gives : List ℕ → Numbers
gives vs = record { code = 0; values = vs }

-- demand 1: "A refusal gives its number and two zeros"
abbrev pub refused : ℕ → Numbers
refused n = record { code = n; values = 0 ∷ 0 ∷ [] }

-- "32 no row that this step fits"
abbrev pub no_such_request : ℕ
no_such_request = 32
