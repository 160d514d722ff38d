-- `session::text::decimal` meets its contract.
-- Assumes nothing.
use mathlib.Core.Path.{◌∙◌, ap}
use mathlib.Core.List.{List, ◌++◌}
use Prim.Native.Nat.{ℕ}
use native.Mathlib.Omega.{arith}
use Rattle.session.proofs.TextLaws.{library_digits_are}
use Rattle.session.proofs.text.decimal.Goals as goal

pub returns-clause-text : goal.returns-clause-text
returns-clause-text c =
    c.append.ensures
    ∙ ap (λ (l : List ℕ). c.args.line.now.items ++ l) (c.as_bytes.ensures.value ∙ c.format.ensures.text ∙ library_digits_are c.args.n (omega arith))
