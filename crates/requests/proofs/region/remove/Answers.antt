use Rattle.std.proofs.Common.{sym, ◌∙◌}
use Rattle.requests.specs.Calls.{without}
use Rattle.requests.proofs.CallLaws.{closed_is}
use Rattle.requests.proofs.region.remove.Goals as goal

pub returns-then-has_place : goal.returns-then-has_place
unfolding without
returns-then-has_place c =
    let t = sym c.has_place.ensures ∙ c.if-has_place.true in
    rw (t, c.drop_first.ensures) (closed_is c.args.region.now c.args.k)
