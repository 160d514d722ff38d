-- `famdrize_c::previews::famdrize_preview` meets its contract: that of the function that it calls. (The check finds this by itself, but comes to a limit where a
-- wrong body has no proof.)
-- Assumes nothing.
use Rattle.famdrize_c.proofs.previews.famdrize_preview.Goals as goal

pub returns : goal.returns
returns c = c.famdrize_preview.ensures
