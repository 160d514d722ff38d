use Rattle.std.proofs.Common.{rules, ◌≡◌, sym, ◌∙◌, true}
use Rattle.std.specs.Prelude.{ltb}
use Rattle.requests.proofs.tests.RequestingTest.holds.Goals.{then-request-self, else-request-self}
use Rattle.requests.proofs.tests.RequestingTest.holds.Goals as goal

-- the low entry is below the range's end, and its low below the request's end
pub returns-then-from-self : goal.returns-then-from-self
returns-then-from-self c =
    elim c.if-request-self.branch [
      | then-request-self w ↦
          let b : ltb c.args.request.now.low c.args.self.now.range.high ≡ true = rw w.from.ensures at (sym w.value-is ∙ c.if-from-self.true) in
          search rules
      | else-request-self w ↦ search rules
    ]
