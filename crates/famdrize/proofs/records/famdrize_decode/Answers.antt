-- `famdrize::records::famdrize_decode` meets its contract.
-- Assumes nothing.
use mathlib.Core.Path.{◌∙◌, sym, ap}
use mathlib.Core.List.{List, ◌∷◌}
use Prim.Native.Nat.{ℕ}
use native.Mathlib.Omega.{arith}
use Rattle.session.specs.Decoded.{decoded_of}
use Rattle.famdrize.specs.Calls.{decoded}
use Rattle.famdrize.proofs.RecordLaws.{short_read}
use Rattle.famdrize.proofs.records.famdrize_decode.Goals as goal

pub overflow_cast-record : goal.overflow_cast-record
overflow_cast-record c =
    omega (arith, short_read _ c.in-Ok.record.step c.in-Ok.record.length (sym (ap decoded_of c.in-Ok.is) ∙ c.decode.ensures.answer))

pub returns-in-Ok : goal.returns-in-Ok
returns-in-Ok c =
    c.record_with.ensures
    ∙ ap (λ (l : List ℕ). 0 ∷ c.in-Ok.record.length ∷ l) c.from.ensures
    ∙ ap decoded (sym (ap decoded_of c.in-Ok.is) ∙ c.decode.ensures.answer)

pub returns-in-Err : goal.returns-in-Err
returns-in-Err c =
    let zero = c.default.ensures.1 in
    rw (c.into.ensures, zero.0, zero.1.0, zero.1.1.0, zero.1.1.1.0, zero.1.1.1.1.0, zero.1.1.1.1.1.0, zero.1.1.1.1.1.1)
    (ap decoded (sym (ap decoded_of c.in-Err.is) ∙ c.decode.ensures.answer))
