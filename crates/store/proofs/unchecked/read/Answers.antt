use Rattle.store.specs.Words.{read_words}
use Rattle.store.proofs.CallLaws.{tested_read, read_is}
use Rattle.store.proofs.unchecked.read.Goals as goal

pub returns : goal.returns
returns c = tested_read (read_words c.args.entry) _ c.in-Some.store.now c.in-Some.ensures.cases _ (rw c.from-e.ensures (read_is c.in-Some.store.now c.args.entry))
