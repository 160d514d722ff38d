use Rattle.std.proofs.Common.{rules, arith, ◌∙◌}
use Rattle.counters.proofs.CallLaws.{all_sound-first, all_sound-short}
use Rattle.counters.proofs.region.+all_sound.Goals as goal

pub returns-in_default : goal.returns-in_default
returns-in_default t c = c.is_empty.ensures ∙ all_sound-short _ c.in_default.ensures.cases

pub returns-then-is_sound : goal.returns-then-is_sound
returns-then-is_sound t c =
    let k = c.in-Some.ensures.cases in
    let u = all_sound-first c.args.words.now (omega (arith, k.2)) in
    search rules

pub returns-else-is_sound : goal.returns-else-is_sound
returns-else-is_sound t c =
    let k = c.in-Some.ensures.cases in
    let u = all_sound-first c.args.words.now (omega (arith, k.2)) in
    search rules
