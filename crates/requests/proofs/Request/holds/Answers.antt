use Rattle.std.proofs.Common.{rules, ◌≡◌, ◌<◌, ◌≤◌, refl, sym, ◌∙◌, ℕ, true}
use borrow.Author.Tests.{lt-ltb, le-leb}
use Rattle.requests.specs.declared.Request.{Request}
use Rattle.requests.specs.Region.{fields_hold, outcome_holds, request_holds}
use Rattle.requests.proofs.Request.holds.Goals.{then-self, else-self}
use Rattle.requests.proofs.Request.holds.Goals as goal

-- where the other rules hold, what is left is the outcome
outcome_left : (n : ℕ) (r : Request) → r.serial ≤ n → r.player ≤ 8 → r.guard < r.serial → fields_hold r ≡ true → outcome_holds n r ≡ request_holds n r
unfolding request_holds
outcome_left n r s p g f = rw (le-leb r.serial n s, le-leb r.player 8 p, lt-ltb r.guard r.serial g, f) refl

pub returns-then-fields_hold : goal.returns-then-fields_hold
returns-then-fields_hold c =
    elim c.if-self.branch [
      | then-self w ↦ c.outcome_holds.ensures ∙ outcome_left c.args.last c.args.self w.if-self.true.0 w.if-self.true.1 w.if-self.true.2 (sym w.fields_hold.ensures ∙ sym w.value-is ∙ c.if-fields_hold.true)
      | else-self w ↦ search rules
    ]
