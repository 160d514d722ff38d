use Rattle.store.specs.Words.{merge_words}
use Rattle.store.proofs.CallLaws.{tested_whole, merge_first, merge_none, merge_set}
use Rattle.store.proofs.unchecked.merge.Goals as goal

pub returns-then-e-eq0 : goal.returns-then-e-eq0
returns-then-e-eq0 c =
    tested_whole (merge_words c.args.entry) _ c.in-Some.store.now c.in-Some.ensures.cases _ (merge_first c.in-Some.store.now c.args.entry (rw c.from-e.ensures at c.if-e-eq0.true))

pub returns-then-store-e-eq0 : goal.returns-then-store-e-eq0
returns-then-store-e-eq0 c =
    tested_whole (merge_words c.args.entry) _ c.in-Some.store.now c.in-Some.ensures.cases _
    (merge_none c.in-Some.store.now c.args.entry (rw c.from-e.ensures at c.if-e-eq0.false) (rw c.from-e.ensures at c.if-store-e-eq0.true))

pub returns : goal.returns
returns c =
    tested_whole (merge_words c.args.entry) _ c.in-Some.store.now c.in-Some.ensures.cases _
    (rw c.from-e.ensures (merge_set c.in-Some.store.now c.args.entry (rw c.from-e.ensures at c.if-e-eq0.false) (rw c.from-e.ensures at c.if-store-e-eq0.false)))
