use mathlib.Core.Path.{refl, ap}
use native.Mathlib.Omega.{arith}
use Rattle.steps.specs.Answers.{answered}
use Rattle.session.specs.Records.{Bytes}
use Rattle.session.specs.Decoded.{decoded_of}
use Rattle.session.proofs.RunLaws.{bytes_drop}
use Rattle.steps.proofs.RunningLaws.{decoded_at, record_within, running_begins, ends, is_spent, is_refused, one_more}
use borrow.Author.Rules.{rules}
use Rattle.steps.proofs.running.take_records.Goals as goal

pub loop-place-init : goal.loop-place-init
loop-place-init c =
    let a = c.args in (running_begins a.left a.session.now a.replies.now a.store.now a.players.now c.requires, refl, refl, refl)

pub stopped-requires : goal.stopped-requires
stopped-requires c = (omega arith, omega arith)

pub returns-then-left-taken : goal.returns-then-left-taken
returns-then-left-taken c =
    let l = c.loop-place in
    let a = c.args in
    rw c.stopped.ensures (is_spent a.left a.session.now a.replies.now _ l.taken l.place l.store l.players l.replies l.invariant.0 c.loop-place-test.true c.if-left-taken.true)

pub put_reply-requires : goal.put_reply-requires
put_reply-requires c =
    let l = c.loop-place in
    let a = c.args in
    let r = c.requires.room in
    let i = l.invariant.3 in
    omega (arith, c.if-left-taken.false)

pub overflow_add-place : goal.overflow_add-place
overflow_add-place c =
    let l = c.loop-place in
    let a = c.args in
    let e = decoded_at l.place a.session.now _ _ c.decode.ensures (ap decoded_of c.in-Ok.is) in
    let w = record_within l.place a.session.now _ _ l.invariant.0.inside e in
    omega (arith, w.1, c.requires.short)

pub loop-place-smaller : goal.loop-place-smaller
loop-place-smaller c =
    let l = c.loop-place in
    let a = c.args in
    let e = decoded_at l.place a.session.now _ _ c.decode.ensures (ap decoded_of c.in-Ok.is) in
    let w = record_within l.place a.session.now _ _ l.invariant.0.inside e in
    omega (arith, w.0, w.1)

pub loop-place-preserved : goal.loop-place-preserved
unfolding Bytes
loop-place-preserved c =
    let l = c.loop-place in
    let a = c.args in
    let e = decoded_at l.place a.session.now _ _ c.decode.ensures (ap decoded_of c.in-Ok.is) in
    let bytes = bytes_drop l.place a.session.now (λ i. omega (arith, c.type_inv.session i)) in
    (one_more a.left a.session.now a.replies.now _ l.taken l.place l.store l.players l.replies l.invariant.0 c.loop-place-test.true (omega (arith, c.if-left-taken.false)) bytes _ _ e (omega (arith, c.requires.room, c.if-left-taken.false)) (answered c.apply.result) _ _ _ c.apply.ensures (rw c.from-reply.ensures at c.put_reply.ensures), search rules, search rules, search rules)

pub stopped-requires-in-Err : goal.stopped-requires-in-Err
stopped-requires-in-Err c = (omega arith, omega arith)

pub returns-in-Err : goal.returns-in-Err
returns-in-Err c =
    let l = c.loop-place in
    let a = c.args in
    rw c.stopped-in-Err.ensures (is_refused a.left a.session.now a.replies.now _ l.taken l.place l.store l.players l.replies l.invariant.0 c.loop-place-test.true (omega (arith, c.if-left-taken.false)) _ (decoded_at l.place a.session.now _ _ c.decode.ensures (ap decoded_of c.in-Err.is)))

pub stopped-requires-2 : goal.stopped-requires-2
stopped-requires-2 c = (omega arith, omega arith)

pub returns : goal.returns
returns c =
    let l = c.loop-place in
    let a = c.args in
    rw c.stopped-2.ensures (ends a.left a.session.now a.replies.now _ l.taken l.place l.store l.players l.replies l.invariant.0 c.loop-place-test.false)
