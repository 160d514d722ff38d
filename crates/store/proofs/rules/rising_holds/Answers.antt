use Rattle.std.proofs.Common.{◌≡◌, sym, ap, ◌∙◌, Bool, ◌&&◌, ◌+◌, ◌-◌, arith, get_or}
use Rattle.std.proofs.Common.{drop, ℕ}
use Rattle.store.specs.Table.{rising}
use Rattle.store.proofs.Turns.{rising_turn, rising_rest}
use Rattle.store.proofs.rules.rising_holds.Goals as goal

pub loop-k-preserved : goal.loop-k-preserved
loop-k-preserved c =
    let u = c.used-n.ensures in
    let a = c.args in
    let k = c.loop-k.k in
    let e : k + 1 - 1 ≡ k = omega arith in
    rw e
    (rising_turn a.last a.starts.now a.guards.now k (omega arith) _ _ (omega arith) (u.before k (omega arith) (omega arith)) c.loop-k.good _ c.follows-good.ensures ∙ c.loop-k.invariant)

pub returns : goal.returns
returns c =
    let u = c.used-n in
    let a = c.args in
    let k = c.loop-k.k in
    let e : k ≡ u.result = omega arith in
    ap (λ (x : Bool). c.loop-k.good && x)
    (c.unused.ensures ∙ sym (rising_rest a.last a.starts.now a.guards.now u.result (omega arith) (get_or a.starts.now (k - 1) 0) (get_or a.guards.now (k - 1) 0) (λ h. u.ensures.end (omega arith))))
    ∙ ap (λ (i : ℕ). c.loop-k.good && rising a.last (get_or a.starts.now (k - 1) 0) (get_or a.guards.now (k - 1) 0) (drop i a.starts.now) (drop i a.guards.now)) (sym e)
    ∙ c.loop-k.invariant
