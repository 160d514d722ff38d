use Rattle.std.proofs.Common.{◌≡◌, refl}
use Rattle.std.specs.Prelude.{leb, true}
use borrow.Author.Tests.{le-leb, ne_eqb}
use Rattle.requests.specs.Region.{outcome_holds}
use Rattle.requests.proofs.Basics.{untold}
use Rattle.requests.proofs.Request.outcome_holds.Goals as goal

pub returns-then-self-le2 : goal.returns-then-self-le2
unfolding outcome_holds
returns-then-self-le2 c =
    let r = c.args.self in
    let k = c.if-self-le2.true in
    let high : leb r.first 2 ≡ true = le-leb r.first 2 k.1 in
    rw (untold r.delivered c.if-not-self.false, c.if-self.false, ne_eqb r.kind 4 c.if-self-eq-READ.false, le-leb 1 r.first k.0, high) refl
