use Rattle.std.proofs.Common.{◌≡◌, drop}
use Rattle.std.specs.Prelude.{◌&&◌, eqb}
use Rattle.store.specs.Table.{at_most}
use Rattle.store.proofs.words.at_most.Given as goal

-- all are at most n where no bit was gathered from those seen, and those left are at most n
abbrev pub invariant-loop-word : goal.invariant-loop-word
invariant-loop-word l = at_most l.n l.part ≡ (eqb l.bits 0 && at_most l.n (drop l.word-index l.part))
