use Rattle.std.proofs.Common.{◌≡◌, drop}
use Rattle.std.specs.Prelude.{◌&&◌, eqb}
use Rattle.store.specs.Table.{at_most}
use Rattle.store.proofs.words.are_zero.Given as goal

-- all are 0 where no bit was gathered from those seen, and those left are 0
abbrev pub invariant-loop-word : goal.invariant-loop-word
invariant-loop-word l = at_most 0 l.part ≡ (eqb l.bits 0 && at_most 0 (drop l.word-index l.part))
