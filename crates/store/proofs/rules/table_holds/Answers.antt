use Rattle.std.proofs.Common.{rules, ◌≡◌, sym, ◌∙◌, true}
use lib.ListN.{take, drop}
use Rattle.store.specs.Table.{at_most, intervals, part}
use Rattle.store.proofs.Turns.{valid_is}
use Rattle.store.proofs.rules.table_holds.Goals.{then-store-eq1, else-store-eq1, then-at_most, else-at_most}
use Rattle.store.proofs.rules.table_holds.Goals as goal

pub returns-then-intervals_hold : goal.returns-then-intervals_hold
unfolding part
returns-then-intervals_hold c =
    let a = c.args in
    let t = a.store.now in
    elim c.if-at_most.branch [
      | then-at_most w ↦
          elim c.if-store-eq1.branch [
            | then-store-eq1 v ↦
                let b : at_most 1 (take 256 t) ≡ true = sym v.at_most.ensures ∙ sym v.value-is ∙ w.if-at_most.true in
                let i : intervals a.last (take 256 (drop 256 t)) (take 256 (drop 512 t)) ≡ true = rw (w.starts.ensures, w.guards.ensures) at (sym w.intervals_hold.ensures ∙ sym w.value-is ∙ c.if-intervals_hold.true) in
                c.at_most-then-intervals_hold.ensures ∙ sym (valid_is a.last t ∙ rw (v.if-store-eq1.true, b, i))
            | else-store-eq1 v ↦ search rules
          ]
      | else-at_most w ↦ search rules
    ]
