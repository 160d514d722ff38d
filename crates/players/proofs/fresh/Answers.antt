-- `players::fresh` meets its contract.
-- Assumes nothing.
use mathlib.Core.Path.{◌≡◌, ap, ◌∙◌}
use Rattle.std.proofs.lemmas.Result.{err_from_is_err_and}
use Rattle.std.proofs.Common.{rules, length, Err}
use Rattle.players.proofs.CheckLaws.{fresh_refused, fresh_both}
use Rattle.players.proofs.fresh.Goals as goal

pub returns-in_err-fresh : goal.returns-in_err-fresh
returns-in_err-fresh c =
    let a = c.args in
    let p = c.in-Some.players.now in
    let x = err_from_is_err_and c.from_residual.result c.from_residual.ensures.1 in
    let e : c.from_residual.result ≡ Err c.in_err-fresh.field-0.0 = x.1 ∙ ap Err x.2 in
    let t : p ≡ a.players.now = search rules in
    let l : length p ≡ 9489 = search rules in
    rw (e, ← t) (fresh_refused a.store.now p l c.fresh.result _ c.fresh.ensures _ c.in_err-fresh.was)

pub returns : goal.returns
returns c =
    let a = c.args in
    let p = c.in-Some.players.now in
    let t : p ≡ a.players.now = search rules in
    let l : length p ≡ 9489 = search rules in
    rw (← t) (fresh_both a.store.now p l c.fresh.result _ c.fresh.ensures _ c.in_ok-fresh.was _ c.lay_players.ensures)
