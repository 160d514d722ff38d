-- What the private function that takes a run's records is given.
-- Assumes nothing.
use Rattle.std.specs.Prelude.{◌≡◌, true, List, ℕ, ◌*◌, ◌≤◌, T, length}
use Rattle.players.specs.Table.{valid}
use Rattle.players.specs.Calls.{whole}
use Rattle.session.specs.Mark.{mark}
use Rattle.session.specs.Runs.{longest, reply_words}

-- what the tests of a run have shown where it is not refused; `left` is how many records it may take
pub record Ready (st t session : List ℕ) (left : ℕ) (list : List ℕ) : Type 0 where
  pub lengths : whole st t ≡ true
  pub keeps : T (valid st t)
  pub marked : length mark ≤ length session
  pub short : length session ≤ longest
  pub room : reply_words * left ≤ length list
  pub few : left ≤ 4294967295
