-- `steps::ownership::set_owner` meets its contract: a case at each return.
-- Assumes nothing.
use mathlib.Core.Path.{◌≡◌, refl, sym, ap, ◌∙◌}
use Rattle.std.specs.Prelude.{Err}
use Rattle.std.proofs.lemmas.Result.{err_from_is_err_and}
use Rattle.store.specs.declared.Range.{Range}
use Rattle.players.specs.Replies.{refusal}
use Rattle.steps.proofs.AnswerLaws.{bad_entries, good_entries, no_serial, a_serial}
use Rattle.steps.proofs.OwnershipLaws.{own_bad, own_spent, own_done}
use Rattle.steps.proofs.ownership.set_owner.Goals as goal

pub returns-in_err-entries : goal.returns-in_err-entries
returns-in_err-entries c =
    let a = c.args in
    let q = bad_entries a.range _ (sym c.try_from.ensures ∙ c.in_err-entries.was) in
    let x = err_from_is_err_and c.from_residual.result c.from_residual.ensures.1 in
    let e : c.from_residual.result ≡ Err c.in_err-entries.field-0.0 = x.1 ∙ ap Err x.2 in
    rw e (own_bad a.players.now c.told-players a.owner a.range q.0 _ (ap refusal q.1))

pub returns-in_err-serial : goal.returns-in_err-serial
returns-in_err-serial c =
    let a = c.args in
    let g = good_entries a.range _ (sym c.try_from.ensures ∙ c.in_ok-entries.was) in
    let q = no_serial a.players.now _ (sym c.next_serial.ensures ∙ c.in_err-serial.was) in
    let x = err_from_is_err_and c.from_residual-in_err-serial.result c.from_residual-in_err-serial.ensures.1 in
    let e : c.from_residual-in_err-serial.result ≡ Err c.in_err-serial.field-0.0 = x.1 ∙ ap Err x.2 in
    rw e (own_spent a.players.now c.told-players a.owner a.range g.1 g.2 q.0 _ (ap refusal q.1))

pub returns : goal.returns
returns c =
    let a = c.args in
    let g = good_entries a.range _ (sym c.try_from.ensures ∙ c.in_ok-entries.was) in
    let q = a_serial a.players.now _ (sym c.next_serial.ensures ∙ c.in_ok-serial.was) in
    let low : c.low-low.result ≡ a.range.low = c.low-low.ensures.low ∙ ap (λ (r : Range). r.low) g.0 in
    let high : c.high-high.result ≡ a.range.high = c.high-high.ensures.high ∙ ap (λ (r : Range). r.high) g.0 in
    rw (low, high) (own_done a.players.now c.told-players a.owner a.range g.1 g.2 q.0 _ q.1 _ _ (rw (low, high, c.from.ensures) at c.fill.ensures) (rw (low, high) at c.fill-2.ensures) _ refl)
