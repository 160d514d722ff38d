use Rattle.std.proofs.Common.{◌≡◌, refl}
use borrow.Author.Tests.{eq-eqb, ne_eqb}
use Rattle.requests.specs.Model.{places, using_entry}
use Rattle.requests.specs.Calls.{overlapped_from, crossed}
use Rattle.requests.proofs.region.cross.Goals as goal

pub returns-then-region-eq-WORDS : goal.returns-then-region-eq-WORDS
unfolding crossed
returns-then-region-eq-WORDS c =
    let marked : c.overlap.new.places ≡ overlapped_from (using_entry c.args.player c.args.entry) places c.args.region.now = rw c.if-region-eq-WORDS.true at c.overlap.ensures in
    rw (c.has-wrote.ensures, marked, eq-eqb _ _ c.if-region-eq-WORDS.true) refl

pub returns-else-region-eq-WORDS : goal.returns-else-region-eq-WORDS
unfolding crossed
returns-else-region-eq-WORDS c = rw (c.has-wrote.ensures, ne_eqb _ _ c.if-region-eq-WORDS.false) refl
