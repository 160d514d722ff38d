-- The layout of a record, for any map and any widths of fields: its length, its fields as numbers, and its fields as bytes. Quoted words
-- are document 01's.
-- Assumes nothing.
use Rattle.std.specs.Prelude.{cond, List, [], ◌∷◌, ◌++◌, ℕ, zero, suc, ◌+◌, ◌*◌, ◌/◌, ◌%◌, get_or, drop}
use Rattle.players.specs.Kinds.{stands}

-- "bit 0 kind (1 byte), 1 player (1), 2 entry or low (1), 3 high (2), 4 value (4), 5 serial (4)"
abbrev pub widths : List ℕ
widths = 1 ∷ 1 ∷ 1 ∷ 2 ∷ 4 ∷ 4 ∷ []

-- ---- lengths

-- the bytes of the fields whose bit stands in m, where the field of bit 0 has the first width
unfoldable pub fields_length : List ℕ → ℕ → ℕ
fields_length [] m = 0
fields_length (w ∷ ws) m = cond (stands m) (w + fields_length ws (m / 2)) (fields_length ws (m / 2))

-- "a bit map, then only the fields whose bit stands"
unfoldable pub record_length : ℕ → ℕ
record_length m = 1 + fields_length widths m

-- ---- numbers, "little-endian", of any width

-- the number of the w bytes at a place
abbrev pub number : ℕ → List ℕ → ℕ → ℕ
number zero s at = 0
number (suc zero) s at = get_or s at 0
number (suc (suc w)) s at = get_or s at 0 + 256 * number (suc w) s (at + 1)

-- the w bytes of a number that fits in them
abbrev pub bytes : ℕ → ℕ → List ℕ
bytes zero v = []
bytes (suc zero) v = v ∷ []
bytes (suc (suc w)) v = v % 256 ∷ bytes (suc w) (v / 256)

-- ---- fields

-- the fields whose bit stands in m, from a place on
unfoldable pub fields : List ℕ → ℕ → List ℕ → ℕ → List ℕ
fields [] m s at = []
fields (w ∷ ws) m s at = cond (stands m) (number w s at ∷ fields ws (m / 2) s (at + w)) (fields ws (m / 2) s at)

-- the bytes of the fields vs, one for each bit that stands in m
unfoldable pub field_bytes : List ℕ → ℕ → List ℕ → List ℕ
field_bytes [] m vs = []
field_bytes (w ∷ ws) m vs =
    cond (stands m) (bytes w (get_or vs 0 0) ++ field_bytes ws (m / 2) (drop 1 vs)) (field_bytes ws (m / 2) vs)
