-- `session::records::encode` meets its contract: the bytes are the record's.
-- Assumes nothing.
use mathlib.Core.Path.{◌∙◌, ap}
use mathlib.Core.List.{List}
use Prim.Native.Nat.{ℕ}
use Rattle.players.specs.Kinds.{map_of}
use Rattle.session.specs.Written.{written}
use Rattle.session.proofs.EncodeLaws.{encoded}
use Rattle.session.proofs.records.encode.Goals as goal

pub returns : goal.returns
returns c =
    let a = c.args in
    c.write.ensures
    ∙ ap (λ (l : List ℕ). written l a.out.now)
    (c.as_slice.ensures.value ∙ c.record_of-record.ensures ∙ encoded a.step _ _ (c.map.ensures ∙ ap map_of c.from.ensures) c.from-2.ensures)
