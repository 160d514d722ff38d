-- `listing::end_line` meets its contract.
-- Assumes nothing.
use Rattle.session.specs.Reports.{reported}
use Rattle.session.specs.Listing.{end_line}
use Rattle.listing.proofs.LineLaws.{end_line-length, line_put}
use Rattle.listing.proofs.end_line.Goals as goal

pub returns : goal.returns
returns c =
    let a = c.args in
    let r = reported a.report in
    line_put (end_line r) 37 a.at a.out.now _ _ c.end_line-put.result (end_line-length r) c.requires c.unwrap_or.ensures (rw c.into.ensures at c.end_line-put.ensures)
