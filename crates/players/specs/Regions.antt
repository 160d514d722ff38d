-- Regions: a table of words is regions side by side. A list of widths says how long each one is, and so where it begins.
-- Assumes nothing.
use Rattle.std.specs.Prelude.{List, [], ◌∷◌, ◌++◌, ℕ, ◌+◌, get_or, take, drop}

-- the n words from b on
unfoldable pub region : ℕ → ℕ → List ℕ → List ℕ
region b n t = take n (drop b t)

-- how many words there are in all
abbrev pub total : List ℕ → ℕ
total [] = 0
total (n ∷ ns) = n + total ns

-- how many there are in region k; regions are counted from 0
abbrev pub width : List ℕ → ℕ → ℕ
width ns k = get_or ns k 0

-- where region k begins: past those before it
abbrev pub offset : List ℕ → ℕ → ℕ
offset ns k = total (take k ns)

-- the table of these regions
abbrev pub joined : List (List ℕ) → List ℕ
joined [] = []
joined (r ∷ rs) = r ++ joined rs
