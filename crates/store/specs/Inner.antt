-- What the private functions do that move numbers within a column, and those that test the guard intervals. No public contract cites these.
-- Assumes nothing.
use Rattle.std.specs.Prelude.{◌≡◌, Bool, not, ◌&&◌, List, ◌++◌, ℕ, ◌+◌, ◌-◌, ◌≤◌, ◌<◌, ltb, eqb, length, get_or, take, drop, replicate}
use Rattle.store.specs.Table.{guard_holds}

-- the column l, of which c places are in use, with the numbers of xs in the place of those from a up to b
unfoldable pub spliced_by : List ℕ → List ℕ → ℕ → ℕ → ℕ → List ℕ
spliced_by xs l a b c =
    let e = a + length xs + (c - b) in
    take a l ++ (xs ++ (take (c - b) (drop b l) ++ (replicate (c - e) 0 ++ drop (e + (c - e)) l)))

-- of the places that hold the starts ss, the first r are used: after place 0, those before the first whose start is 0
pub record Used (ss : List ℕ) (r : ℕ) : Type 0 where
  pub some : 1 ≤ r
  pub most : r ≤ 256
  pub before : (k : ℕ) → k < r → 1 ≤ k → get_or ss k 0 ≡ 0 → ⊥
  pub end : r < 256 → get_or ss r 0 ≡ 0

-- an interval that begins at s and has the guard l may follow one that begins at e and has the guard g; n is the last serial issued
unfoldable pub follows : ℕ → ℕ → ℕ → ℕ → ℕ → Bool
follows n e g s l = ltb e s && (ltb s 256 && (not (eqb l g) && guard_holds n l))
