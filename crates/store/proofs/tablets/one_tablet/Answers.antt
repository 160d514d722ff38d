use Rattle.std.proofs.Common.{rules, tests, arith, eqb, ◌∙◌, ◌+◌, ◌-◌, take, drop}
use Rattle.std.proofs.lemmas.Iterator.{YieldsList-from_slice}
use Rattle.std.proofs.lemmas.Iterator.Search.{all_from_yields_List}
use Rattle.store.proofs.TabletLaws.{unbroken_is}
use Rattle.store.proofs.tablets.one_tablet.Goals as goal

pub returns : goal.returns
returns c =
    let a = c.args in
    all_from_yields_List (λ b. eqb b 0) _ _ _ c.all.ensures.ran (YieldsList-from_slice (take (a.entries.high - (a.entries.low + 1)) (drop (a.entries.low + 1) a.boundaries.now)) cc) (λ x b q k. search (rules, tests))
    ∙ unbroken_is a.boundaries.now (a.entries.low + 1) _ (omega arith)
