-- `steps::loading::load` meets its contract: a case at each return.
-- Assumes nothing.
use mathlib.Core.Path.{◌≡◌, refl, sym, ap, ◌∙◌}
use mathlib.Core.Bool.{false}
use Prim.Native.Nat.{ℕ}
use Rattle.std.specs.Prelude.{Err}
use Rattle.std.proofs.lemmas.Result.{err_from_is_err_and}
use Rattle.store.specs.Model.{open_guard}
use Rattle.requests.specs.Model.{loader, new_request}
use Rattle.players.specs.Replies.{refusal, issued}
use Rattle.players.specs.Rules.{step}
use Rattle.players.specs.declared.Step.TheVariants.{Load}
use Rattle.steps.specs.InnerWords.{Moves}
use Rattle.steps.proofs.AnswerLaws.{no_request, a_request}
use Rattle.steps.proofs.IssuingLaws.{load_full, load_spent, load_done}
use Rattle.steps.proofs.loading.load.Goals as goal

pub returns-in_err-serial : goal.returns-in_err-serial
returns-in_err-serial c =
    let a = c.args in
    let t = a.players.now in
    let x = err_from_is_err_and c.from_residual.result c.from_residual.ensures.1 in
    let e : c.from_residual.result ≡ Err c.in_err-serial.field-0.0 = x.1 ∙ ap Err x.2 in
    rw e
    (no_request t c.scan_for-scan.result.counts loader (λ n. Moves (λ s. step s (Load a.entry a.value)) t (refusal n) t) _ (sym c.next_request.ensures ∙ c.in_err-serial.was)
    (λ h. load_full t c.told-players a.entry a.value c.scan_for-scan.ensures refl h _ refl)
    (λ h k. load_spent t c.told-players a.entry a.value c.scan_for-scan.ensures refl h k _ refl))

pub returns : goal.returns
returns c =
    let a = c.args in
    let t = a.players.now in
    let q = a_request t c.scan_for-scan.result.counts loader _ (sym c.next_request.ensures ∙ c.in_ok-serial.was) in
    load_done t c.told-players a.entry a.value c.scan_for-scan.ensures q.0 refl q.1
    _ (c.for_entry.ensures ∙ ap (λ (n : ℕ). new_request n loader 5 a.entry 0 a.value open_guard false) q.2) _ c.add.ensures _ (ap issued q.2)
