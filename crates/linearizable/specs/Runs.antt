-- The claim about the run itself: two lent tables, made fresh by the call `players::fresh`, and a call of `steps::running::run` over any session bytes, which does what its contract says
-- (crate steps, specs/RunCalls: `ran`), word for word. From bytes to the claim nothing stands between.
-- Assumes nothing.
use Rattle.std.specs.Prelude.{◌≡◌, true, List, ℕ, length}
use Rattle.players.specs.declared.Step.{Step}
use Rattle.players.specs.Calls.{whole}
use Rattle.players.specs.Played.{tables}
use Rattle.session.specs.Records.{Bytes}
use Rattle.session.specs.Runs.{steps, whole_places}
use Rattle.steps.specs.RunCalls.{Finished, ran, replies_from}
use Rattle.linearizable.specs.Claim.{LinearizableBy}
use Rattle.linearizable.specs.Tables.{store_in, freshened}

-- what a run left is that of the steps xs: it reports as many records, and the claim holds of the replies that stand in the list and of what the tables hold
pub record LinearizableFinish (xs : List Step) (d : Finished) : Type 0 where
  pub records : d.report.records ≡ length xs
  pub linear : LinearizableBy xs (replies_from d.list 0 d.report.records) (store_in (tables d.store d.players))

-- of any bytes, any budget and any list, on any two tables of the right lengths, once they are made fresh. A refused run is that of no step
abbrev pub LinearizableRan : List ℕ → ℕ → List ℕ → Type 0
LinearizableRan session budget list =
    Bytes session → (st t : List ℕ) → whole st t ≡ true
    → let u = freshened st t in LinearizableFinish (steps session budget (whole_places list)) (ran u.store u.players session budget list)
