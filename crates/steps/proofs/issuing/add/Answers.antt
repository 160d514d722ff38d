-- `steps::issuing::add` meets its contract.
-- Assumes nothing.
use mathlib.Core.Path.{ap}
use lib.ListN.{set}
use borrow.Rule.Slice.PartMut.{put_mid}
use Rattle.steps.specs.InnerWords.{added}
use Rattle.steps.proofs.issuing.add.Goals as goal

pub returns : goal.returns
unfolding added
returns c =
    let a = c.args in
    ap (put_mid 8705 768 (set a.players.now 0 a.r.serial)) c.put.ensures
