-- The fields of a step as they are handed over: six numbers, one for each bit of a record's map. Quoted words are document 01's.
-- Assumes nothing.
use Rattle.std.specs.Prelude.{cond, List, [], ◌∷◌, ℕ, ◌/◌}
use Rattle.players.specs.Kinds.{stands}
use Rattle.session.specs.declared.Fields.{Fields}

-- of numbers for the bits of any map, from bit 0 on, those whose bit stands in m
unfoldable pub standing : ℕ → List ℕ → List ℕ
standing m [] = []
standing m (v ∷ vs) = cond (stands m) (v ∷ standing (m / 2) vs) (standing (m / 2) vs)

-- "bit 0 kind, 1 player, 2 entry or low, 3 high, 4 value, 5 serial"
abbrev pub six : ℕ → ℕ → ℕ → ℕ → ℕ → ℕ → List ℕ
six kind player entry high value serial = kind ∷ player ∷ entry ∷ high ∷ value ∷ serial ∷ []

abbrev pub numbers : Fields → List ℕ
numbers f = six f.kind f.player f.entry f.high f.value f.serial
