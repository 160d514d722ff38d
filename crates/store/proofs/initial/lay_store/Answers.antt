use mathlib.Core.Path.{◌≡◌, refl, ◌∙◌}
use mathlib.Core.List.{[]}
use Prim.Native.Nat.{◌+◌, ◌-◌, ◌*◌}
use native.Mathlib.Omega.{arith}
use borrow.Rule.Slice.PartMut.{same_len_mid}
use Rattle.store.proofs.FreshLaws.{array_more, fresh_table}
use Rattle.store.proofs.initial.lay_store.Goals as goal

pub loop-column-init : goal.loop-column-init
loop-column-init c = (c.told-store, refl)

pub loop-column-preserved : goal.loop-column-preserved
loop-column-preserved c =
    let l = c.loop-column in
    let b = l.column * 256 in
    let e : (l.column + 1) * 256 ≡ b + 256 = omega arith in
    (same_len_mid b (b + 256 - b) l.store c.lay.new.part c.lay.auto.part ∙ l.invariant.0, rw e (array_more l.store [] b b 0 l.invariant.1 256 (b + 256 - b) _ (omega arith) (omega arith) c.lay.ensures))

pub returns : goal.returns
returns c =
    let l = c.loop-column in
    let k : l.column ≡ 5 = omega arith in
    fresh_table l.store (rw k at l.invariant.1) l.invariant.0
