-- `session::mark::marked` meets its contract.
-- Assumes nothing.
use mathlib.Core.Path.{◌∙◌}
use Rattle.session.specs.Mark.{mark}
use Rattle.session.proofs.MarkLaws.{begins-starts_with}
use Rattle.session.proofs.mark.marked.Goals as goal

pub returns : goal.returns
returns c = c.starts_with.ensures.value ∙ begins-starts_with mark c.args.session.now
