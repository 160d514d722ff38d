use Rattle.std.proofs.Common.{sym, ◌∙◌, refl, ◌*◌, arith}
use Rattle.requests.specs.Region.{whole, words_of}
use Rattle.requests.specs.Calls.{with_request}
use Rattle.requests.proofs.Basics.{both_left}
use Rattle.requests.proofs.CallLaws.{place_is, put_is}
use Rattle.requests.proofs.region.put.Goals as goal

pub returns-then-has_place : goal.returns-then-has_place
unfolding with_request
returns-then-has_place c =
    let t = sym c.has_place.ensures ∙ c.if-has_place.true in
    let h = place_is c.args.region.now c.args.k t in
    rw (c.write_first.ensures, c.words_of.ensures, both_left (whole c.args.region.now) _ t) (put_is c.args.region.now (words_of c.args.r) _ (c.args.k * 12) refl refl (omega (arith, h.0, h.1)))
