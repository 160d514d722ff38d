-- `session::records::decode` meets its contract: each answer by the tests that lead to it.
-- Assumes nothing.
use mathlib.Core.Path.{◌≡◌, ◌∙◌, sym, ap}
use mathlib.Core.Bool.{true}
use native.Mathlib.Omega.{arith}
use lib.ListN.{length, get_or}
use borrow.Author.Rules.{rules}
use Rattle.std.specs.Prelude.{Err}
use Rattle.store.specs.declared.refusal.Refusal.TheVariants.{CutShort, UnknownKind}
use Rattle.players.specs.Kinds.{map_of, in_force}
use Rattle.session.specs.Kinds.{code_of}
use Rattle.session.specs.Layout.{record_length}
use Rattle.session.specs.Records.{cut_short, unknown_field, unknown_kind, wrong_fields, kind_at}
use Rattle.session.proofs.KindCodes.{named, code_in_force}
use Rattle.session.proofs.Tested.{no_byte, high_bit, cut, no_kind, not-in_force, other_map, accepted, refusal_decodes}
use Rattle.session.proofs.RoundTrip.{record_decodes}
use Rattle.session.proofs.records.decode.Goals as goal

pub returns-in_err-map : goal.returns-in_err-map
returns-in_err-map c =
    let s = c.args.part.now in
    let none : length s ≡ 0 = search rules in
    let e : c.from_residual.result ≡ Err CutShort = search rules in
    rw e (refusal_decodes s cut_short (no_byte s none))

pub returns-then-map-ge64 : goal.returns-then-map-ge64
returns-then-map-ge64 c =
    let s = c.args.part.now in
    let some : length s ≡ 0 → ⊥ = search rules in
    let m : c.in_ok-map.field-0.now ≡ get_or s 0 0 = search rules in
    refusal_decodes s unknown_field (high_bit s some (omega arith))

pub returns-then-part-length : goal.returns-then-part-length
returns-then-part-length c =
    let s = c.args.part.now in
    let some : length s ≡ 0 → ⊥ = search rules in
    let m : c.in_ok-map.field-0.now ≡ get_or s 0 0 = search rules in
    let n : c.length_of-length.result ≡ record_length (get_or s 0 0) = c.length_of-length.ensures.value ∙ ap record_length m in
    refusal_decodes s cut_short (cut s some (omega arith) (omega arith))

pub returns-then-map-eq0 : goal.returns-then-map-eq0
returns-then-map-eq0 c =
    let s = c.args.part.now in
    let some : length s ≡ 0 → ⊥ = search rules in
    let m : c.in_ok-map.field-0.now ≡ get_or s 0 0 = search rules in
    let n : c.length_of-length.result ≡ record_length (get_or s 0 0) = c.length_of-length.ensures.value ∙ ap record_length m in
    refusal_decodes s wrong_fields (no_kind s some (omega arith) (omega arith) (λ e. omega arith))

pub returns-in_err-kind : goal.returns-in_err-kind
returns-in_err-kind c =
    let s = c.args.part.now in
    let some : length s ≡ 0 → ⊥ = search rules in
    let m : c.in_ok-map.field-0.now ≡ get_or s 0 0 = search rules in
    let n : c.length_of-length.result ≡ record_length (get_or s 0 0) = c.length_of-length.ensures.value ∙ ap record_length m in
    let u = (named (kind_at s)).unknown _ (sym c.try_from.ensures ∙ c.in_err-kind.was) in
    let e : c.from_residual-in_err-kind.result ≡ Err UnknownKind = search (rules, u.0) in
    rw e (refusal_decodes s unknown_kind (not-in_force s some (omega arith) (omega arith) (omega arith) u.1))

pub returns-then-map : goal.returns-then-map
returns-then-map c =
    let s = c.args.part.now in
    let some : length s ≡ 0 → ⊥ = search rules in
    let m : c.in_ok-map.field-0.now ≡ get_or s 0 0 = search rules in
    let n : c.length_of-length.result ≡ record_length (get_or s 0 0) = c.length_of-length.ensures.value ∙ ap record_length m in
    let k : code_of c.in_ok-kind.kind ≡ kind_at s = (named (kind_at s)).known _ (sym c.try_from.ensures ∙ c.in_ok-kind.was) in
    let force : in_force (kind_at s) ≡ true = rw (← k) (code_in_force c.in_ok-kind.kind) in
    refusal_decodes s wrong_fields
    (other_map s some (omega arith) (omega arith) (omega arith) force (λ e. c.if-map.true (m ∙ e ∙ sym (c.map.ensures ∙ ap map_of k))))

pub returns : goal.returns
returns c =
    let s = c.args.part.now in
    let some : length s ≡ 0 → ⊥ = search rules in
    let m : c.in_ok-map.field-0.now ≡ get_or s 0 0 = search rules in
    let n : c.length_of-length.result ≡ record_length (get_or s 0 0) = c.length_of-length.ensures.value ∙ ap record_length m in
    let k : code_of c.in_ok-kind.kind ≡ kind_at s = (named (kind_at s)).known _ (sym c.try_from.ensures ∙ c.in_ok-kind.was) in
    let force : in_force (kind_at s) ≡ true = rw (← k) (code_in_force c.in_ok-kind.kind) in
    record_decodes s
    (accepted s some (omega arith) (omega arith) (omega arith) force (sym m ∙ c.if-map.false ∙ c.map.ensures ∙ ap map_of k))
    _ k _ c.step.ensures _ n
