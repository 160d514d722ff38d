use Rattle.std.proofs.Common.{◌≡◌, refl, sym, ◌∙◌, true}
use Rattle.requests.specs.Region.{request_of}
use Rattle.requests.proofs.places.mark.Goals as goal

pub returns-then-holds : goal.returns-then-holds
returns-then-holds g c =
    let t : g.T.Test.holds c.args.test.now (request_of c.args.place.now) ≡ true = rw c.request_of.ensures at (sym c.holds.ensures ∙ c.if-holds.true) in
    rw t refl
