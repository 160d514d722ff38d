-- `steps::cells::clear` meets its contract.
-- Assumes nothing.
use mathlib.Core.Path.{◌≡◌}
use Prim.Native.Nat.{◌+◌, ◌*◌, ◌≤◌}
use native.Mathlib.Omega.{arith}
use Rattle.steps.proofs.WordLaws.{clear_parts}
use Rattle.steps.proofs.cells.clear.Goals as goal

pub returns : goal.returns
returns c =
    let a = c.args in
    let low : c.row.result + c.low.result ≡ a.player * 256 + a.entries.low = rw (c.row.ensures.row, c.low.ensures.low) in
    let high : c.row-2.result + c.high.result ≡ a.player * 256 + a.entries.high = rw (c.row-2.ensures.row, c.high.ensures.high) in
    let some : c.row.result + c.low.result ≤ c.row-2.result + c.high.result = omega (arith, c.row.ensures.row, c.row-2.ensures.row, c.low.ensures.some, c.high.ensures.high) in
    let within : c.row-2.result + c.high.result ≤ 2048 = omega (arith, c.row-2.ensures.within, c.high.ensures.within) in
    rw (← low, ← high) (clear_parts (c.row.result + c.low.result) (c.row-2.result + c.high.result) a.players.now _ _ _ _ c.told-players some within c.fill.ensures c.fill-2.ensures c.fill-3.ensures c.fill-4.ensures)
