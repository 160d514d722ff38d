use Rattle.std.proofs.Common.{rules, arith, sym, ◌∙◌}
use Rattle.requests.proofs.FirstPlace.{places_hold-short, places_hold-unused, places_hold-used}
use Rattle.requests.proofs.rules.+places_hold.Goals as goal

pub returns-in_default : goal.returns-in_default
returns-in_default t c = sym (places_hold-short _ _ _ c.in_default.ensures.cases)

pub returns-then-serial-eq0 : goal.returns-then-serial-eq0
returns-then-serial-eq0 t c =
    let k = c.in-Some.ensures.cases in
    c.are_zero.ensures ∙ sym (places_hold-unused _ _ (omega (arith, k.2)) k.0 _ _ c.if-serial-eq0.true)

pub returns-then-holds : goal.returns-then-holds
returns-then-holds t c =
    let k = c.in-Some.ensures.cases in
    let u = places_hold-used _ _ (omega (arith, k.2)) k.0 c.args.last c.args.before c.if-serial-eq0.false in
    search rules

pub returns-else-holds : goal.returns-else-holds
returns-else-holds t c =
    let k = c.in-Some.ensures.cases in
    let u = places_hold-used _ _ (omega (arith, k.2)) k.0 c.args.last c.args.before c.if-serial-eq0.false in
    search rules
