use Rattle.std.proofs.Common.{arith, sym}
use Rattle.requests.proofs.FirstPlace.{overlapped-short, overlapped-unused, overlapped-used}
use Rattle.requests.proofs.places.+overlap.Goals as goal

pub returns-in_default : goal.returns-in_default
returns-in_default g t c = sym (overlapped-short _ _ c.in_default.ensures.cases)

pub returns-then-place-eq0 : goal.returns-then-place-eq0
returns-then-place-eq0 g t c =
    let k = c.in-Some.ensures.cases in
    overlapped-unused _ _ (omega (arith, k.2)) k.0 _ _ k.1 c.if-place-eq0.true

pub returns : goal.returns
returns g t c =
    let k = c.in-Some.ensures.cases in
    rw (c.mark.ensures, c.overlap.ensures) (overlapped-used _ _ (omega (arith, k.2)) k.0 _ _ k.1 c.if-place-eq0.false)
