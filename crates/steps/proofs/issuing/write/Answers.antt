-- `steps::issuing::write` meets its contract: a case at each return.
-- Assumes nothing.
use mathlib.Core.Path.{◌≡◌, refl, sym, ap, ◌∙◌}
use Prim.Native.Nat.{ℕ}
use Rattle.std.specs.Prelude.{Err}
use Rattle.std.proofs.lemmas.Result.{err_from_is_err_and}
use Rattle.requests.specs.Model.{new_request}
use Rattle.players.specs.Replies.{refusal, issued}
use Rattle.players.specs.Rules.{step}
use Rattle.players.specs.declared.Step.TheVariants.{Write}
use Rattle.steps.specs.InnerWords.{Moves}
use Rattle.steps.proofs.AnswerLaws.{no_player, a_player, no_request, a_request}
use Rattle.steps.proofs.IssuingLaws.{write_player, write_owner, write_dead, write_full, write_spent, write_done}
use Rattle.steps.proofs.issuing.write.Goals as goal

pub returns-in_err-writer : goal.returns-in_err-writer
returns-in_err-writer c =
    let a = c.args in
    let q = no_player a.player _ (sym c.try_from.ensures ∙ c.in_err-writer.was) in
    let x = err_from_is_err_and c.from_residual.result c.from_residual.ensures.1 in
    let e : c.from_residual.result ≡ Err c.in_err-writer.field-0.0 = x.1 ∙ ap Err x.2 in
    rw e (write_player a.players.now c.told-players a.player a.entry a.value q.0 _ (ap refusal q.1))

pub returns-then-players-from : goal.returns-then-players-from
returns-then-players-from c =
    let a = c.args in
    let g = a_player a.player _ (sym c.try_from.ensures ∙ c.in_ok-writer.was) in
    write_owner a.players.now c.told-players a.player a.entry a.value g.1 c.ranges.entry.fits (rw (c.from.ensures, c.from-2.ensures) at c.if-players-from.true) _ refl

pub returns-then-guard-eq0 : goal.returns-then-guard-eq0
returns-then-guard-eq0 c =
    let a = c.args in
    let g = a_player a.player _ (sym c.try_from.ensures ∙ c.in_ok-writer.was) in
    write_dead a.players.now c.told-players a.player a.entry a.value g.1 c.ranges.entry.fits (rw (c.from.ensures, c.from-2.ensures) at c.if-players-from.false) _ (rw g.0 at c.live_guard-guard.ensures) c.if-guard-eq0.true _ refl

pub returns-in_err-serial : goal.returns-in_err-serial
returns-in_err-serial c =
    let a = c.args in
    let g = a_player a.player _ (sym c.try_from.ensures ∙ c.in_ok-writer.was) in
    let t = a.players.now in
    let x = err_from_is_err_and c.from_residual-in_err-serial.result c.from_residual-in_err-serial.ensures.1 in
    let e : c.from_residual-in_err-serial.result ≡ Err c.in_err-serial.field-0.0 = x.1 ∙ ap Err x.2 in
    rw e
    (no_request t c.scan_for-scan.result.counts a.player (λ n. Moves (λ s. step s (Write a.player a.entry a.value)) t (refusal n) t) _ (sym c.next_request.ensures ∙ c.in_err-serial.was)
    (λ h. write_full a.players.now c.told-players a.player a.entry a.value g.1 c.ranges.entry.fits (rw (c.from.ensures, c.from-2.ensures) at c.if-players-from.false) _ (rw g.0 at c.live_guard-guard.ensures) c.if-guard-eq0.false c.scan_for-scan.ensures refl h _ refl)
    (λ h k. write_spent a.players.now c.told-players a.player a.entry a.value g.1 c.ranges.entry.fits (rw (c.from.ensures, c.from-2.ensures) at c.if-players-from.false) _ (rw g.0 at c.live_guard-guard.ensures) c.if-guard-eq0.false c.scan_for-scan.ensures refl h k _ refl))

pub returns : goal.returns
returns c =
    let a = c.args in
    let g = a_player a.player _ (sym c.try_from.ensures ∙ c.in_ok-writer.was) in
    let t = a.players.now in
    let q = a_request t c.scan_for-scan.result.counts a.player _ (sym c.next_request.ensures ∙ c.in_ok-serial.was) in
    write_done a.players.now c.told-players a.player a.entry a.value g.1 c.ranges.entry.fits (rw (c.from.ensures, c.from-2.ensures) at c.if-players-from.false) _ (rw g.0 at c.live_guard-guard.ensures) c.if-guard-eq0.false c.scan_for-scan.ensures q.0 refl q.1
    _ (rw (c.cell.ensures.cell, g.0) at c.cache.ensures) _ _ c.cross-overlapped.ensures
    _ (c.for_entry.ensures ∙ ap (λ (n : ℕ). new_request n a.player 5 a.entry 0 a.value c.live_guard-guard.result c.cross-overlapped.result) q.2) _ c.add.ensures _ (ap issued q.2)
