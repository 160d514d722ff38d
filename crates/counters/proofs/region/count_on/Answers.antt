-- `counters::region::count_on` meets its contract.
-- Assumes nothing.
use Rattle.std.proofs.Common.{◌≡◌, ◌∙◌, ap}
use borrow.Author.Tests.{lt-ltb}
use Rattle.counters.specs.declared.Counts.{Counts}
use Rattle.counters.specs.Model.{counted_by}
use Rattle.counters.specs.Region.{counts_of, with_counts, counted_at}
use Rattle.counters.proofs.region.count_on.Goals.{After-put_counts}
use Rattle.counters.proofs.region.count_on.Goals as goal

-- the counts that are lent are the player's
lent : (c : After-put_counts) → c.counts_at-counts.result ≡ counts_of c.args.region.now c.args.p
lent c = c.counts_at-counts.ensures

-- those given back are put in its place
put : (c : After-put_counts) → c.put_counts.new.region ≡ with_counts c.args.p c.count.new.self c.args.region.now
put c = c.put_counts.ensures

pub returns : goal.returns
unfolding counted_at
returns c =
    rw (c.told-region, lt-ltb c.args.p 8 c.requires)
    (put c ∙ ap (λ (k : Counts). with_counts c.args.p k c.args.region.now) (c.count.ensures ∙ ap (λ (k : Counts). counted_by k c.args.code) (lent c)))
