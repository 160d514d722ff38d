use Rattle.std.proofs.Common.{arith, ◌∙◌}
use Rattle.store.specs.Table.{part}
use Rattle.store.proofs.Columns.{spliced_is, replaced_none, replaced_put}
use Rattle.store.proofs.guards.replace.Goals as goal

pub returns-then-cut-count-gt256 : goal.returns-then-cut-count-gt256
returns-then-cut-count-gt256 c = replaced_none _ _ _ _ _ _ _ _ _ c.new_intervals-count.ensures.count c.if-cut-count-gt256.true

pub returns : goal.returns
unfolding part
returns c =
    let n = c.new_intervals-count.ensures in
    replaced_put c.args.store.now c.told-store _ _ _ _ _ _ _ _ n.count (omega arith) (omega arith) c.if-cut-count-gt256.false _ _
    (c.splice.ensures ∙ spliced_is _ _ _ _ _ _ _ n.most) (c.splice-2.ensures ∙ spliced_is _ _ _ _ _ _ _ n.most)
