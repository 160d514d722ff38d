-- `session::writer::record_of` meets its contract.
-- Assumes nothing.
use mathlib.Core.Path.{◌∙◌, ap}
use mathlib.Core.List.{List, [], ◌∷◌, ◌++◌}
use Prim.Native.Nat.{ℕ}
use native.Mathlib.Omega.{arith}
use Rattle.session.proofs.EncodeLaws.{appended, two_bytes, four_bytes}
use Rattle.session.proofs.writer.record_of.Goals as goal

pub returns : goal.returns
returns c =
    let f = c.args.fields in
    appended c.args.map f.kind f.player f.entry f.high f.value f.serial
    (c.to_le_bytes.ensures ∙ two_bytes f.high (omega arith))
    (c.to_le_bytes-2.ensures ∙ four_bytes f.value (omega arith))
    (c.to_le_bytes-3.ensures ∙ four_bytes f.serial (omega arith))
    (c.push.ensures.items ∙ ap (λ (l : List ℕ). l ++ (c.args.map ∷ [])) c.new-record.ensures)
    c.put.ensures c.put-2.ensures c.put-3.ensures c.put-4.ensures c.put-5.ensures c.put-6.ensures
