use Rattle.std.proofs.Common.{◌≡◌, refl}
use Rattle.std.specs.Prelude.{ltb, leb, true}
use borrow.Author.Tests.{lt-ltb, le-leb, eq-eqb}
use Rattle.requests.proofs.Request.guard_request_holds.Goals as goal

pub returns-then-self-eq0-2 : goal.returns-then-self-eq0-2
returns-then-self-eq0-2 c =
    let r = c.args.self in
    let k = c.if-self-eq0-2.true in
    let low : ltb r.low r.high ≡ true = rw c.from.ensures at (lt-ltb c.from.result r.high k.0) in
    let high : leb r.high 256 ≡ true = le-leb r.high 256 k.1 in
    rw (low, high, eq-eqb r.value 0 k.2, eq-eqb r.guard 0 k.3) refl
