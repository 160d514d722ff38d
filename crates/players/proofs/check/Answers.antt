-- `players::check` meets its contract.
-- Assumes nothing.
use mathlib.Core.Path.{◌≡◌, sym, ap, ◌∙◌}
use mathlib.Core.Bool.{true, false}
use Rattle.std.proofs.lemmas.Result.{err_from_is_err_and}
use Rattle.std.proofs.Common.{rules, length, Err}
use Rattle.players.proofs.CheckLaws.{check_store, check_players}
use Rattle.players.proofs.check.Goals as goal

pub returns-in_err-check_at : goal.returns-in_err-check_at
returns-in_err-check_at c =
    let a = c.args in
    let p = c.in-Some.players.now in
    let x = err_from_is_err_and c.from_residual.result c.from_residual.ensures.1 in
    let e : c.from_residual.result ≡ Err c.in_err-check_at.field-0.0 = x.1 ∙ ap Err x.2 in
    let t : p ≡ a.players.now = search rules in
    let l : length p ≡ 9489 = search rules in
    rw (e, ← t) (check_store a.store.now p l c.check_at.result c.check_at.ensures _ c.in_err-check_at.was)

pub returns-then-not-players_hold : goal.returns-then-not-players_hold
returns-then-not-players_hold c =
    let a = c.args in
    let p = c.in-Some.players.now in
    let t : p ≡ a.players.now = search rules in
    let l : length p ≡ 9489 = search rules in
    rw (← t) (check_players a.store.now p l c.check_at.result c.check_at.ensures _ c.in_ok-check_at.was false (sym c.if-not-players_hold.true ∙ c.players_hold.ensures))

pub returns : goal.returns
returns c =
    let a = c.args in
    let p = c.in-Some.players.now in
    let t : p ≡ a.players.now = search rules in
    let l : length p ≡ 9489 = search rules in
    rw (← t) (check_players a.store.now p l c.check_at.result c.check_at.ensures _ c.in_ok-check_at.was true (sym c.if-not-players_hold.false ∙ c.players_hold.ensures))
