use Rattle.std.proofs.Common.{◌≡◌, sym, ◌∙◌, true, false}
use borrow.Author.Tests.{ne_eqb}
use Rattle.requests.specs.Model.{places}
use Rattle.requests.specs.Region.{places_hold, valid}
use Rattle.requests.proofs.Basics.{clash}
use Rattle.requests.proofs.region.holds.Goals.{then-region-eq-WORDS, else-region-eq-WORDS}
use Rattle.requests.proofs.region.holds.Goals as goal

pub returns-then-places_hold : goal.returns-then-places_hold
unfolding valid
returns-then-places_hold c =
    elim c.if-region-eq-WORDS.branch [
      | then-region-eq-WORDS w ↦
          let v : places_hold c.args.last 0 places c.args.region.now ≡ true = rw w.if-region-eq-WORDS.true at (sym w.places_hold.ensures ∙ sym w.value-is ∙ c.if-places_hold.true) in
          rw (w.if-region-eq-WORDS.true, v) (rw c.counts_of.ensures at c.are_kept.ensures)
      | else-region-eq-WORDS w ↦ clash c.if-places_hold.true (w.value-is ∙ ne_eqb _ _ w.if-region-eq-WORDS.false)
    ]

pub returns-else-places_hold : goal.returns-else-places_hold
unfolding valid
returns-else-places_hold c =
    elim c.if-region-eq-WORDS.branch [
      | then-region-eq-WORDS w ↦
          let v : places_hold c.args.last 0 places c.args.region.now ≡ false = rw w.if-region-eq-WORDS.true at (sym w.places_hold.ensures ∙ sym w.value-is ∙ c.if-places_hold.false) in
          rw (w.if-region-eq-WORDS.true, v) c.if-places_hold.false
      | else-region-eq-WORDS w ↦ rw (ne_eqb _ _ w.if-region-eq-WORDS.false) (w.value-is ∙ ne_eqb _ _ w.if-region-eq-WORDS.false)
    ]
