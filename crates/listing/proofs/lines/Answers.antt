-- `listing::lines` meets its contract.
-- Assumes nothing.
use mathlib.Core.Path.{◌≡◌, ap, ◌∙◌}
use mathlib.Core.List.{List, []}
use Prim.Native.Nat.{ℕ, ◌<◌}
use native.Mathlib.Omega.{arith}
use lib.ListN.{length, take, get_or}
use lib.Seq.{length-take-le}
use borrow.Author.Rules.{rules}
use Rattle.steps.specs.RunCalls.{reply_at}
use Rattle.listing.proofs.LineLaws.{header_put, none_lined, one_lined, all_lined, part_reply}
use Rattle.listing.proofs.lines.Goals as goal

pub loop-i-init : goal.loop-i-init
loop-i-init c =
    let a = c.args in
    let h = header_put a.out.now _ _ c.header.result (omega arith) c.unwrap_or-at.ensures c.header.ensures in (none_lined a.replies.now _ _ _ h.0 h.1, search rules)

pub loop-i-preserved : goal.loop-i-preserved
loop-i-preserved c =
    let l = c.loop-i in
    let list = c.args.replies.now in
    let n = c.args.report.records in
    let parts = c.as_chunks in
    let all : length (take n parts.result.0.now) ≡ n = length-take-le n parts.result.0.now (omega (arith, parts.ensures.front_len)) in
    let h : l.i < n = omega (arith, all, c.loop-i-test.true) in
    let e = ap (λ (p : List (List ℕ)). reply_at (get_or (take n p) l.i []) 0) parts.ensures.front ∙ part_reply n _ l.i list h (omega arith) in
    (one_lined list n l.i l.at _ l.out _ _ l.invariant.0 h e c.reply_line-at.ensures, search rules)

pub returns : goal.returns
returns c =
    let l = c.loop-i in
    let n = c.args.report.records in
    let parts = c.as_chunks in
    let all : length (take n parts.result.0.now) ≡ n = length-take-le n parts.result.0.now (omega (arith, parts.ensures.front_len)) in
    let e = c.end_line in
    (omega arith, all_lined c.args.replies.now _ l.i l.at e.result l.out _ _ l.invariant.0 (omega (arith, all, c.loop-i-test.false)) e.ensures)
