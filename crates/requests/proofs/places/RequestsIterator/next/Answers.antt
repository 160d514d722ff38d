use Rattle.std.proofs.Common.{rules, ◌≡◌, [], sym, ◌∙◌, arith}
use Rattle.requests.proofs.FirstPlace.{requests_in-short, requests_in-unused, requests_in-used}
use Rattle.requests.proofs.places.RequestsIterator.next.Goals as goal

pub returns-in_err-place-clause-steps : goal.returns-in_err-place-clause-steps
returns-in_err-place-clause-steps c =
    let e : c.args.self.now ≡ [] = sym c.self.view_is ∙ requests_in-short c.self.inside.rest.now c.in_err-place.ensures.cases in
    rw c.from_residual.ensures (e, e)

pub returns-then-place-eq0-clause-steps : goal.returns-then-place-eq0-clause-steps
returns-then-place-eq0-clause-steps c =
    let k = c.in_ok-place.ensures.cases in
    (sym c.self.view_is ∙ requests_in-unused c.self.inside.rest.now _ (omega (arith, k.2)) k.0 c.if-place-eq0.true, requests_in-short [] (omega arith))

pub returns-clause-steps : goal.returns-clause-steps
returns-clause-steps c =
    let k = c.in_ok-place.ensures.cases in
    sym c.self.view_is ∙ requests_in-used c.self.inside.rest.now _ (omega (arith, k.2)) k.0 c.if-place-eq0.false
    ∙ rw (c.request_of.ensures, k.1)

pub returns-clause-goes : goal.returns-clause-goes
returns-clause-goes c = let h = returns-clause-steps c in search rules
