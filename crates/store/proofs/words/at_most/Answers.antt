use Rattle.std.proofs.Common.{sym, ◌∙◌}
use Rattle.store.proofs.Turns.{at_most_turn}
use Rattle.store.proofs.words.at_most.Goals as goal

pub loop-word-preserved : goal.loop-word-preserved
loop-word-preserved c =
    let l = c.loop-word in
    l.invariant ∙ sym (at_most_turn c.args.part.now l.word-index l.bits c.args.n _ c.above-bits.ensures c.loop-word-test.true)
