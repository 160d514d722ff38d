use Rattle.std.proofs.Common.{arith, ◌≡◌, ℕ, Bool, true, false, cond, refl, sym, ◌∙◌}
use Rattle.std.specs.Bool.{then_some}
use borrow.Author.Tests.{eq-eqb}
use Rattle.requests.specs.declared.Request.{Request}
use Rattle.requests.specs.Model.{fits}
use Rattle.requests.specs.Calls.{At, Nowhere, found, found_from}
use Rattle.requests.proofs.FirstPlace.{requests_of-length}
use Rattle.requests.proofs.ScanLaws.{finds}
use Rattle.requests.proofs.region.find.Goals as goal

pub overflow_add-place : goal.overflow_add-place
overflow_add-place c = grind (arith, requests_of-length c.args.region.now)

-- the answer at a request with the serial
here : (k : ℕ) (r : Request) (b : Bool) → cond b (At k r) Nowhere ≡ then_some b (record { place = k; request = r })
here k r true = refl
here k r false = refl

pub returns-then-request-serial : goal.returns-then-request-serial
unfolding found_from
returns-then-request-serial c =
    let r = c.in-Some.request in
    let stands : found c.args.fit c.args.serial c.args.region.now ≡ then_some (fits c.args.fit r) (record { place = c.loop-request.place; request = r }) =
    c.loop-request.invariant.3 ∙ rw (c.in-Some.ensures.steps, eq-eqb r.serial c.args.serial c.if-request-serial.true) (here c.loop-request.place r (fits c.args.fit r))
    in
    finds _ _ _ _ (c.then_some.ensures ∙ rw c.holds.ensures (sym stands))
