use Rattle.std.proofs.Common.{sym, ◌∙◌}
use Rattle.store.proofs.Turns.{zero_turn}
use Rattle.store.proofs.words.are_zero.Goals as goal

pub loop-word-preserved : goal.loop-word-preserved
loop-word-preserved c =
    let l = c.loop-word in
    l.invariant ∙ sym (zero_turn c.args.part.now l.word-index l.bits c.loop-word-test.true)
