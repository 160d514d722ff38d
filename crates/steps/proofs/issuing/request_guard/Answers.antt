-- `steps::issuing::request_guard` meets its contract: a case at each return.
-- Assumes nothing.
use mathlib.Core.Path.{◌≡◌, refl, sym, ap, ◌∙◌}
use mathlib.Core.Bool.{false}
use Prim.Native.Nat.{ℕ}
use Rattle.std.specs.Prelude.{Err}
use Rattle.std.proofs.lemmas.Result.{err_from_is_err_and}
use Rattle.requests.specs.Model.{new_request}
use Rattle.players.specs.Replies.{refusal, issued}
use Rattle.players.specs.Rules.{step}
use Rattle.players.specs.declared.Step.TheVariants.{RequestGuard}
use Rattle.steps.specs.InnerWords.{Moves}
use Rattle.steps.proofs.AnswerLaws.{no_player, a_player, bad_entries, good_entries, no_request, a_request}
use Rattle.steps.proofs.IssuingLaws.{Asks, request_player, request_bad, request_owner, request_again, request_full, request_spent, request_done}
use Rattle.steps.proofs.issuing.request_guard.Goals as goal
use Rattle.steps.proofs.issuing.request_guard.Goals.{Else-not-owns_all}

asks : (c : Else-not-owns_all) → Asks c.args.players.now c.args.player c.args.range
asks c =
    let p = a_player c.args.player _ (sym c.try_from.ensures ∙ c.in_ok-asker.was) in
    let g = good_entries c.args.range _ (sym c.try_from-2.ensures ∙ c.in_ok-entries.was) in
    record {
      long = c.told-players;
      player = p.1;
      some = g.1;
      within = g.2;
      own = sym c.if-not-owns_all.false ∙ (rw (p.0, g.0) at c.owns_all.ensures);
    }

pub returns-in_err-asker : goal.returns-in_err-asker
returns-in_err-asker c =
    let a = c.args in
    let q = no_player a.player _ (sym c.try_from.ensures ∙ c.in_err-asker.was) in
    let x = err_from_is_err_and c.from_residual.result c.from_residual.ensures.1 in
    let e : c.from_residual.result ≡ Err c.in_err-asker.field-0.0 = x.1 ∙ ap Err x.2 in
    rw e (request_player a.players.now c.told-players a.player a.range q.0 _ (ap refusal q.1))

pub returns-in_err-entries : goal.returns-in_err-entries
returns-in_err-entries c =
    let a = c.args in
    let p = a_player a.player _ (sym c.try_from.ensures ∙ c.in_ok-asker.was) in
    let q = bad_entries a.range _ (sym c.try_from-2.ensures ∙ c.in_err-entries.was) in
    let x = err_from_is_err_and c.from_residual-in_err-entries.result c.from_residual-in_err-entries.ensures.1 in
    let e : c.from_residual-in_err-entries.result ≡ Err c.in_err-entries.field-0.0 = x.1 ∙ ap Err x.2 in
    rw e (request_bad a.players.now c.told-players a.player a.range p.1 q.0 _ (ap refusal q.1))

pub returns-then-not-owns_all : goal.returns-then-not-owns_all
returns-then-not-owns_all c =
    let a = c.args in
    let p = a_player a.player _ (sym c.try_from.ensures ∙ c.in_ok-asker.was) in
    let g = good_entries a.range _ (sym c.try_from-2.ensures ∙ c.in_ok-entries.was) in
    request_owner a.players.now c.told-players a.player a.range p.1 g.1 g.2 (sym c.if-not-owns_all.true ∙ (rw (p.0, g.0) at c.owns_all.ensures)) _ refl

pub returns-then-scan : goal.returns-then-scan
returns-then-scan c =
    request_again (asks (goal.at.returns-then-scan c).Else-not-owns_all) c.scan_for-scan.ensures c.if-scan.true _ refl

pub returns-in_err-serial : goal.returns-in_err-serial
returns-in_err-serial c =
    let a = c.args in
    let t = a.players.now in
    let k = asks (goal.at.returns-in_err-serial c).Else-not-owns_all in
    let x = err_from_is_err_and c.from_residual-in_err-serial.result c.from_residual-in_err-serial.ensures.1 in
    let e : c.from_residual-in_err-serial.result ≡ Err c.in_err-serial.field-0.0 = x.1 ∙ ap Err x.2 in
    rw e
    (no_request t c.scan_for-scan.result.counts a.player (λ n. Moves (λ s. step s (RequestGuard a.player a.range)) t (refusal n) t) _ (sym c.next_request.ensures ∙ c.in_err-serial.was)
    (λ h. request_full k c.scan_for-scan.ensures c.if-scan.false refl h _ refl)
    (λ h n. request_spent k c.scan_for-scan.ensures c.if-scan.false refl h n _ refl))

pub returns : goal.returns
returns c =
    let a = c.args in
    let t = a.players.now in
    let p = a_player a.player _ (sym c.try_from.ensures ∙ c.in_ok-asker.was) in
    let g = good_entries a.range _ (sym c.try_from-2.ensures ∙ c.in_ok-entries.was) in
    let q = a_request t c.scan_for-scan.result.counts a.player _ (sym c.next_request.ensures ∙ c.in_ok-serial.was) in
    request_done (asks (goal.at.returns c).Else-not-owns_all) c.scan_for-scan.ensures c.if-scan.false q.0 refl q.1
    _ (rw (p.0, g.0) at c.clear.ensures) _ (c.for_guard.ensures ∙ ap (λ (n : ℕ). new_request n a.player 3 a.range.low a.range.high 0 0 false) q.2) _ c.add.ensures _ (ap issued q.2)
