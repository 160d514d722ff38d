use Rattle.std.proofs.Common.{rules, arith, ◌≡◌, sym, ◌∙◌, true, get_or}
use Rattle.store.specs.Table.{guard_holds}
use Rattle.store.proofs.Turns.{intervals_begins}
use Rattle.store.proofs.rules.intervals_hold.Goals.{then-starts-eq0, else-starts-eq0}
use Rattle.store.proofs.rules.intervals_hold.Goals as goal

pub returns-then-guard_holds : goal.returns-then-guard_holds
returns-then-guard_holds c =
    let a = c.args in
    elim c.if-starts-eq0.branch [
      | then-starts-eq0 w ↦
          let g : guard_holds a.last (get_or a.guards.now 0 0) ≡ true = sym w.guard_holds.ensures ∙ sym w.value-is ∙ c.if-guard_holds.true in
          c.rising_holds.ensures ∙ sym (intervals_begins a.last a.starts.now a.guards.now (omega arith) (omega arith) ∙ rw (w.if-starts-eq0.true, g))
      | else-starts-eq0 w ↦ search rules
    ]
