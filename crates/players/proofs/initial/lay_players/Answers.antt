-- `players::initial::lay_players` meets its contract.
-- Assumes nothing.
use mathlib.Core.Path.{◌≡◌, ◌∙◌}
use Prim.Native.Nat.{◌+◌, ◌-◌, ◌*◌}
use native.Mathlib.Omega.{arith}
use borrow.Rule.Slice.PartMut.{same_len_mid}
use Rattle.store.proofs.FreshLaws.{array_more}
use Rattle.players.proofs.FreshLaws.{before_epochs, begun_long, begun, fresh_words}
use Rattle.players.proofs.initial.lay_players.Goals as goal

-- the owners are nobody
nobody : (c : goal.After-lay-2) → c.from.result ≡ 8
nobody c = c.from.ensures

pub loop-k-init : goal.loop-k-init
loop-k-init c =
    let t = c.args.players.now in
    let os = c.lay.new.part in
    let es = c.lay-2.new.part in (
      begun_long t os es c.told-players c.lay.auto.part c.lay-2.auto.part,
      begun t os es c.told-players c.lay.auto.part c.lay-2.auto.part (rw (nobody c) at c.lay.ensures) c.lay-2.ensures,
    )

pub loop-k-preserved : goal.loop-k-preserved
loop-k-preserved c =
    let l = c.loop-k in
    let b = 513 + l.k * 2048 in
    let j = 256 + l.k * 2048 in
    let eb : 513 + (l.k + 1) * 2048 ≡ b + 2048 = omega arith in
    let ej : 256 + (l.k + 1) * 2048 ≡ j + 2048 = omega arith in (
      same_len_mid b (b + 2048 - b) l.players c.lay-in-loop-k.new.part c.lay-in-loop-k.auto.part ∙ l.invariant.0,
      rw (eb, ej)
          (array_more l.players before_epochs b j 0 l.invariant.1 2048 (b + 2048 - b) _ (omega arith) (omega arith) c.lay-in-loop-k.ensures),
    )

pub returns : goal.returns
returns c =
    let l = c.loop-k in
    let k : l.k ≡ 4 = omega arith in
    fresh_words l.players _ l.invariant.0 (rw k at l.invariant.1) (c.fill.ensures.after (λ y e. e))
