-- `listing::reply_line` meets its contract.
-- Assumes nothing.
use Rattle.session.specs.Listing.{reply_line}
use Rattle.listing.proofs.LineLaws.{reply_line-length, line_put}
use Rattle.steps.specs.RunCalls.{reply_at}
use Rattle.listing.proofs.reply_line.Goals as goal

pub returns : goal.returns
returns c =
    let a = c.args in
    let r = reply_at a.words.now 0 in
    line_put (reply_line a.ordinal r) 44 a.at a.out.now _ _ c.reply_line.result (reply_line-length a.ordinal r) c.requires c.unwrap_or.ensures c.reply_line.ensures
