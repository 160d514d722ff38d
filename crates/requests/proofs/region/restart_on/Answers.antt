use mathlib.Core.Path.{◌≡◌, sym, ◌∙◌}
use mathlib.Core.Bool.{false}
use Rattle.std.proofs.Common.{rules, length, take, drop, replicate, ◌-◌, ◌*◌}
use native.Mathlib.Omega.{arith}
use Rattle.requests.proofs.RestartLaws.{pack_start, pack_on, pack_done, rest_none}
use Rattle.requests.proofs.ScanLaws.{from_none, is_used, place_used}
use Rattle.requests.proofs.region.restart_on.Goals as goal

pub loop-region-init : goal.loop-region-init
loop-region-init c =
    let a = c.args in
    (omega arith, pack_start a.player a.region.now c.told-region)

pub carry-j-requires : goal.carry-j-requires
carry-j-requires c =
    let u = is_used c.loop-region.region c.loop-region.k (sym c.is_used.ensures ∙ c.loop-region-test.true) in (c.loop-region.invariant.1.order, u.0)

pub loop-region-smaller : goal.loop-region-smaller
loop-region-smaller c =
    let u = is_used c.loop-region.region c.loop-region.k (sym c.is_used.ensures ∙ c.loop-region-test.true) in omega arith

pub loop-region-preserved : goal.loop-region-preserved
loop-region-preserved c =
    let u = is_used c.loop-region.region c.loop-region.k (sym c.is_used.ensures ∙ c.loop-region-test.true) in (omega arith, pack_on _ _ _ _ _ c.loop-region.invariant.1 u.0 u.1 _ _ c.carry-j.ensures)

pub slice_bounds-fill-start : goal.slice_bounds-fill-start
slice_bounds-fill-start c = omega (arith, c.loop-region.invariant.1.order)

pub slice_bounds-fill-end : goal.slice_bounds-fill-end
slice_bounds-fill-end c = omega (arith, c.loop-region.invariant.1.long)

pub returns : goal.returns
returns c =
    let a = c.args in
    let n : place_used c.loop-region.region c.loop-region.k ≡ false = sym c.is_used.ensures ∙ c.loop-region-test.false in pack_done _ _ _ _ _ c.loop-region.invariant.1 (from_none c.loop-region.region c.loop-region.k n) (rest_none a.player c.loop-region.region c.loop-region.k n) c.loop-region.invariant.0 c.told-region _ (let z : c.fill.new.self ≡ replicate (length (take (c.loop-region.k * 12 - c.loop-region.j * 12) (drop (c.loop-region.j * 12) c.loop-region.region))) 0 = search rules in z)
