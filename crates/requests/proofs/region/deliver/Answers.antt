use Rattle.std.proofs.Common.{refl, sym, ◌∙◌}
use Rattle.requests.specs.Region.{whole}
use Rattle.requests.specs.Calls.{with_delivered}
use Rattle.requests.proofs.Basics.{both_left}
use Rattle.requests.proofs.region.deliver.Goals as goal

pub returns-then-has_place : goal.returns-then-has_place
unfolding with_delivered
returns-then-has_place c = rw (both_left (whole c.args.region.now) _ (sym c.has_place.ensures ∙ c.if-has_place.true)) refl
