-- `session::layout::length_of` meets its contract: the table is the rule's at all 64 maps, by one computed test.
-- Assumes nothing.
use mathlib.Core.Path.{◌≡◌, ◌∙◌, ap}
use Prim.Native.Nat.{ℕ}
use native.Mathlib.Omega.{arith}
use native.Mathlib.Nat.{zero-add}
use lib.ListN.{get_or}
use borrow.Author.Rules.{rules}
use Rattle.store.specs.Table.{listed}
use Rattle.store.proofs.Lists.{get_or-listed}
use Rattle.session.specs.Layout.{fields_length, record_length}
use Rattle.session.proofs.RoundTrip.{odd_length}
use Rattle.session.proofs.layout.length_of.Goals as goal

-- the constant and `listed record_length 0 64` are one list: both are computed
length : (c : goal.After-from-2) → c.from-2.result ≡ record_length c.args.map
unfolding listed fields_length record_length
length c =
    let m = c.args.map in
    c.from-2.ensures
    ∙ ap (λ (k : ℕ). get_or (listed record_length 0 64) k 0) c.from.ensures
    ∙ get_or-listed record_length 0 64 m (search rules)
    ∙ ap record_length (zero-add m)

pub returns-clause-value : goal.returns-clause-value
returns-clause-value c = length c

pub returns-clause-kind : goal.returns-clause-kind
returns-clause-kind c = λ e. omega (arith, length c, odd_length c.args.map e)
