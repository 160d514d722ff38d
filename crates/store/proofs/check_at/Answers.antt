use Rattle.std.proofs.Common.{rules, ◌≡◌, sym, ap, ◌∙◌, false, length}
use Rattle.store.specs.Table.{valid}
use Rattle.store.proofs.check_at.Goals as goal

pub returns-then-not-table_holds : goal.returns-then-not-table_holds
returns-then-not-table_holds c =
    let a = c.args in
    let e : c.in-Some.store.now ≡ a.store.now = search rules in
    let l : length a.store.now ≡ 1280 = search rules in
    let v : valid a.last a.store.now ≡ false = ap (valid a.last) (sym e) ∙ sym c.table_holds.ensures ∙ c.if-not-table_holds.true in
    rw (l, v)
