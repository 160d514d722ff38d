use Rattle.store.specs.Words.{split_words}
use Rattle.store.proofs.CallLaws.{tested_whole, split_first, split_stands, split_set}
use Rattle.store.proofs.unchecked.split.Goals as goal

pub returns-then-e-eq0 : goal.returns-then-e-eq0
returns-then-e-eq0 c =
    tested_whole (split_words c.args.entry) _ c.in-Some.store.now c.in-Some.ensures.cases _ (split_first c.in-Some.store.now c.args.entry (rw c.from-e.ensures at c.if-e-eq0.true))

pub returns-then-store-e-eq1 : goal.returns-then-store-e-eq1
returns-then-store-e-eq1 c =
    tested_whole (split_words c.args.entry) _ c.in-Some.store.now c.in-Some.ensures.cases _
    (split_stands c.in-Some.store.now c.args.entry (rw c.from-e.ensures at c.if-e-eq0.false) (rw c.from-e.ensures at c.if-store-e-eq1.true))

pub returns : goal.returns
returns c =
    tested_whole (split_words c.args.entry) _ c.in-Some.store.now c.in-Some.ensures.cases _
    (rw c.from-e.ensures (split_set c.in-Some.store.now c.args.entry (rw c.from-e.ensures at c.if-e-eq0.false) (rw c.from-e.ensures at c.if-store-e-eq1.false)))
