use Rattle.std.proofs.Common.{◌≡◌, refl, sym, ◌∙◌, true, false}
use Rattle.std.specs.Prelude.{◌||◌, leb}
use borrow.Author.Tests.{not-true, not-false}
use Rattle.requests.specs.Model.{loader}
use Rattle.requests.specs.Shares.{own_places, count_in}
use Rattle.requests.proofs.shares.has_no_place.Goals as goal

pub returns-then-not-has_own_place : goal.returns-then-not-has_own_place
returns-then-not-has_own_place c =
    let none : (leb loader c.args.player || leb own_places (count_in c.args.counts.now c.args.player)) ≡ true = not-false _ (sym c.has_own_place.ensures ∙ c.if-not-has_own_place.true) in
    rw (c.common.ensures, none) refl

pub returns-else-not-has_own_place : goal.returns-else-not-has_own_place
returns-else-not-has_own_place c =
    let one : (leb loader c.args.player || leb own_places (count_in c.args.counts.now c.args.player)) ≡ false = not-true _ (sym c.has_own_place.ensures ∙ c.if-not-has_own_place.false) in
    rw (c.if-not-has_own_place.false, one) refl
