-- The kinds of steps in force: of each its number, its map and its fields. A new kind is a line of each list here. Quoted words are document 01's.
-- Assumes nothing.
use Rattle.std.specs.Prelude.{Bool, true, false, cond, not, List, [], ◌∷◌, ℕ, zero, suc, ◌/◌, ◌%◌, ◌<◌, get_or, drop, eqb}
use Rattle.store.specs.declared.Range.{Range}
use Rattle.players.specs.declared.Step.{Step}
use Rattle.players.specs.declared.Step.TheVariants.{Assign, Release, RequestGuard, Read, Write, Deliver, Respond, Abandon, Lose, Split, Merge, RestartTablet, RestartPlayer, FindInterval, Load}

-- ---- maps

-- "Maps: 0F for kinds 1 and 3; 0D for 2; 07 for 4; 17 for 5; 21 for 6 to 9; 05 for 10 to 12; 03 for 13", and document 02: "kind 14, map
-- 05" (§1), "Kind 15 (entry and value, map 15 hexadecimal)" (§2); from kind 0, which is none
abbrev pub maps : List ℕ
maps = 0x00 ∷ 0x0F ∷ 0x0D ∷ 0x0F ∷ 0x07 ∷ 0x17 ∷ 0x21 ∷ 0x21 ∷ 0x21 ∷ 0x21 ∷ 0x05 ∷ 0x05 ∷ 0x05 ∷ 0x03 ∷ 0x05 ∷ 0x15 ∷ []

-- the last of them
abbrev pub last_kind : ℕ
last_kind = 15

-- the map of a kind; 0, which is no kind's, where the number is none
unfoldable pub map_of : ℕ → ℕ
map_of k = get_or maps k 0

-- document 02 §1, "26 means a kind not in force": those in force are the kinds that have a map
abbrev pub in_force : ℕ → Bool
in_force k = not (eqb (map_of k) 0)

-- bit 0 stands; the next bit is bit 0 of m / 2
abbrev pub stands : ℕ → Bool
stands m = eqb (m % 2) 1

-- ---- steps

-- "a step is its kind with that kind's fields and nothing else": the kind, then the fields in the order of their bits
abbrev pub kind_and_fields : Step → List ℕ
kind_and_fields (Assign p r) = 1 ∷ p ∷ r.low ∷ r.high ∷ []
kind_and_fields (Release r) = 2 ∷ r.low ∷ r.high ∷ []
kind_and_fields (RequestGuard p r) = 3 ∷ p ∷ r.low ∷ r.high ∷ []
kind_and_fields (Read p e) = 4 ∷ p ∷ e ∷ []
kind_and_fields (Write p e v) = 5 ∷ p ∷ e ∷ v ∷ []
kind_and_fields (Deliver n) = 6 ∷ n ∷ []
kind_and_fields (Respond n) = 7 ∷ n ∷ []
kind_and_fields (Abandon n) = 8 ∷ n ∷ []
kind_and_fields (Lose n) = 9 ∷ n ∷ []
kind_and_fields (Split e) = 10 ∷ e ∷ []
kind_and_fields (Merge e) = 11 ∷ e ∷ []
kind_and_fields (RestartTablet e) = 12 ∷ e ∷ []
kind_and_fields (RestartPlayer p) = 13 ∷ p ∷ []
kind_and_fields (FindInterval e) = 14 ∷ e ∷ []
kind_and_fields (Load e v) = 15 ∷ e ∷ v ∷ []

abbrev pub kind : Step → ℕ
kind x = get_or (kind_and_fields x) 0 0

abbrev range : ℕ → ℕ → Range
range lo hi = record { low = lo; high = hi }

-- the step of the kind k, 1 to the last, with this kind and these fields
unfoldable pub step_of : ℕ → List ℕ → Step
step_of k vs =
    let a = get_or vs 1 0 in
    let b = get_or vs 2 0 in
    let c = get_or vs 3 0 in
    cond (eqb k 1) (Assign a (range b c))
    (cond (eqb k 2) (Release (range a b))
    (cond (eqb k 3) (RequestGuard a (range b c))
    (cond (eqb k 4) (Read a b)
    (cond (eqb k 5) (Write a b c)
    (cond (eqb k 6) (Deliver a)
    (cond (eqb k 7) (Respond a)
    (cond (eqb k 8) (Abandon a)
    (cond (eqb k 9) (Lose a)
    (cond (eqb k 10) (Split a)
    (cond (eqb k 11) (Merge a)
    (cond (eqb k 12) (RestartTablet a)
    (cond (eqb k 13) (RestartPlayer a)
    (cond (eqb k 14) (FindInterval a)
    (Load a b))))))))))))))

-- ---- the six numbers of a step

-- n numbers: the next of vs where the bit stands in m, else 0
unfoldable pub spread : ℕ → ℕ → List ℕ → List ℕ
spread zero m vs = []
spread (suc n) m vs = cond (stands m) (get_or vs 0 0 ∷ spread n (m / 2) (drop 1 vs)) (0 ∷ spread n (m / 2) vs)

-- "bit 0 kind, 1 player, 2 entry or low, 3 high, 4 value, 5 serial": one for each bit, 0 for each field that the kind lacks
abbrev pub numbers_of : Step → List ℕ
numbers_of x = spread 6 (map_of (kind x)) (kind_and_fields x)

-- ---- widths

-- a byte, or with `true` any number
abbrev pub ByteOrAny : Bool → ℕ → Type 0
ByteOrAny true e = Unit {0}
ByteOrAny false e = e < 256

-- the entry of a step fits its width; a range (bit 3 stands), as all else, is tested by the step
abbrev pub Fits : Step → Type 0
Fits x = ByteOrAny (stands (map_of (kind x) / 8)) (get_or (numbers_of x) 2 0)
