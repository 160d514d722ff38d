use borrow.Author.Tests.{eq-eqb, ne_eqb}
use Rattle.requests.specs.Region.{fields_hold}
use Rattle.requests.proofs.Request.fields_hold.Goals as goal

pub returns-then-self-eq-WRITE : goal.returns-then-self-eq-WRITE
unfolding fields_hold
returns-then-self-eq-WRITE c =
    let r = c.args.self in
    rw (eq-eqb r.player 8 c.if-self-eq-LOADER.true, eq-eqb r.kind 5 c.if-self-eq-WRITE.true) c.load_holds.ensures

pub returns-in-5 : goal.returns-in-5
unfolding fields_hold
returns-in-5 c = rw (ne_eqb c.args.self.player 8 c.if-self-eq-LOADER.false, c.in-5.is) c.write_holds.ensures
