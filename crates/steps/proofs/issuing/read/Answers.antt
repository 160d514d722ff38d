-- `steps::issuing::read` meets its contract: a case at each return.
-- Assumes nothing.
use mathlib.Core.Path.{◌≡◌, refl, sym, ap, ◌∙◌}
use Prim.Native.Nat.{ℕ}
use native.Mathlib.Omega.{arith}
use Rattle.std.specs.Prelude.{Err}
use Rattle.std.proofs.lemmas.Result.{err_from_is_err_and}
use Rattle.requests.specs.Model.{new_request}
use Rattle.players.specs.Replies.{refusal, issued}
use Rattle.players.specs.Rules.{step}
use Rattle.players.specs.declared.Step.TheVariants.{Read}
use Rattle.steps.specs.InnerWords.{Moves}
use Rattle.steps.proofs.AnswerLaws.{no_player, a_player, no_request, a_request}
use Rattle.steps.proofs.IssuingLaws.{read_player, read_hit, read_full, read_spent, read_done}
use Rattle.steps.proofs.issuing.read.Goals as goal

pub returns-in_err-reader : goal.returns-in_err-reader
returns-in_err-reader c =
    let a = c.args in
    let q = no_player a.player _ (sym c.try_from.ensures ∙ c.in_err-reader.was) in
    let x = err_from_is_err_and c.from_residual.result c.from_residual.ensures.1 in
    let e : c.from_residual.result ≡ Err c.in_err-reader.field-0.0 = x.1 ∙ ap Err x.2 in
    rw e (read_player a.players.now c.told-players a.player a.entry q.0 _ (ap refusal q.1))

pub returns-then-is_hit : goal.returns-then-is_hit
returns-then-is_hit c =
    let a = c.args in
    let g = a_player a.player _ (sym c.try_from.ensures ∙ c.in_ok-reader.was) in
    rw (c.cell-i.ensures.cell, g.0) (read_hit a.players.now c.told-players a.player a.entry g.1 (omega (arith, c.ranges)) (sym c.if-is_hit.true ∙ (rw g.0 at c.is_hit.ensures)) _ (rw g.0 at c.count.ensures))

pub returns-in_err-serial : goal.returns-in_err-serial
returns-in_err-serial c =
    let a = c.args in
    let t = a.players.now in
    let g = a_player a.player _ (sym c.try_from.ensures ∙ c.in_ok-reader.was) in
    let x = err_from_is_err_and c.from_residual-in_err-serial.result c.from_residual-in_err-serial.ensures.1 in
    let e : c.from_residual-in_err-serial.result ≡ Err c.in_err-serial.field-0.0 = x.1 ∙ ap Err x.2 in
    rw e
    (no_request t c.scan_for-scan.result.counts a.player (λ n. Moves (λ s. step s (Read a.player a.entry)) t (refusal n) t) _ (sym c.next_request.ensures ∙ c.in_err-serial.was)
    (λ h. read_full t c.told-players a.player a.entry g.1 (omega (arith, c.ranges)) (sym c.if-is_hit.false ∙ (rw g.0 at c.is_hit.ensures)) c.scan_for-scan.ensures refl h _ refl)
    (λ h k. read_spent t c.told-players a.player a.entry g.1 (omega (arith, c.ranges)) (sym c.if-is_hit.false ∙ (rw g.0 at c.is_hit.ensures)) c.scan_for-scan.ensures refl h k _ refl))

pub returns : goal.returns
returns c =
    let a = c.args in
    let t = a.players.now in
    let g = a_player a.player _ (sym c.try_from.ensures ∙ c.in_ok-reader.was) in
    let q = a_request t c.scan_for-scan.result.counts a.player _ (sym c.next_request.ensures ∙ c.in_ok-serial.was) in
    read_done t c.told-players a.player a.entry g.1 (omega (arith, c.ranges)) (sym c.if-is_hit.false ∙ (rw g.0 at c.is_hit.ensures)) c.scan_for-scan.ensures q.0 refl q.1 _ (rw g.0 at c.live_guard-guard.ensures)
    _ (c.for_entry.ensures ∙ ap (λ (n : ℕ). new_request n a.player 4 a.entry 0 0 c.live_guard-guard.result c.scan_for-scan.result.hit) q.2) _ c.add.ensures _ (ap issued q.2)
