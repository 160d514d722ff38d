-- `session::records::of_fields` meets its contract: the record of the fields reads as the step.
-- Assumes nothing.
use mathlib.Core.Path.{◌≡◌, ◌∙◌, refl, sym, ap}
use borrow.Author.Rules.{rules}
use Rattle.std.specs.Prelude.{Err}
use Rattle.store.specs.declared.refusal.Refusal.TheVariants.{UnknownKind}
use Rattle.players.specs.Kinds.{map_of}
use Rattle.session.specs.Kinds.{code_of}
use Rattle.session.specs.Records.{decode}
use Rattle.session.specs.Fields.{numbers}
use Rattle.session.proofs.KindCodes.{named, code_in_force}
use Rattle.session.proofs.EncodeLaws.{by_map}
use Rattle.session.proofs.RoundTrip.{no_kind, record_read}
use Rattle.session.proofs.records.of_fields.Goals as goal

pub returns-in_err-kind : goal.returns-in_err-kind
returns-in_err-kind c =
    let k = c.args.fields.kind in
    let u = (named k).unknown _ (sym c.try_from.ensures ∙ c.in_err-kind.was) in
    let e : c.from_residual.result ≡ Err UnknownKind = search (rules, u.0) in
    rw e (no_kind k _ refl u.1)

pub returns : goal.returns
returns c =
    let f = c.args.fields in
    let e : code_of c.in_ok-kind.kind ≡ f.kind = (named f.kind).known _ (sym c.try_from.ensures ∙ c.in_ok-kind.was) in
    c.decode.ensures.answer
    ∙ ap decode (c.as_slice.ensures.value ∙ c.record_of-record.ensures ∙ by_map (numbers f) _ (c.map.ensures ∙ ap map_of e))
    ∙ record_read f.kind _ refl (rw (← e) (code_in_force c.in_ok-kind.kind))
