use Rattle.std.proofs.Common.{rules, ◌≡◌, ◌-◌, length, take, drop, replicate}
use native.Mathlib.Omega.{arith}
use Rattle.requests.proofs.WordLaws.{shift_none, shift_more, drop_done}
use Rattle.requests.proofs.places.drop_first.Goals as goal

pub loop-i-init : goal.loop-i-init
loop-i-init c = (omega arith, shift_none _ _ _)

pub loop-i-preserved : goal.loop-i-preserved
loop-i-preserved c = (omega arith, shift_more _ _ _ _ _ (omega arith) (omega arith) c.loop-i.invariant.1)

pub returns : goal.returns
returns c =
    let w = c.loop-i.places in
    let z : c.fill.new.self ≡ replicate (length (take (length w - (length c.args.places.now - 12)) (drop (length c.args.places.now - 12) w))) 0 = search rules in
    drop_done c.args.places.now _ _ _ _ (omega arith) (omega arith) c.loop-i.invariant.1 z
