use Rattle.std.proofs.Common.{refl, sym, ◌∙◌}
use Rattle.requests.specs.Region.{whole}
use Rattle.requests.specs.Calls.{with_abandoned}
use Rattle.requests.proofs.Basics.{both_left}
use Rattle.requests.proofs.region.abandon.Goals as goal

pub returns-then-has_place : goal.returns-then-has_place
unfolding with_abandoned
returns-then-has_place c = rw (both_left (whole c.args.region.now) _ (sym c.has_place.ensures ∙ c.if-has_place.true)) refl
