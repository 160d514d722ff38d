use Rattle.std.proofs.Common.{ℕ, ap}
use Rattle.std.specs.Prelude.{leb}
use Rattle.requests.specs.Shares.{common_places}
use Rattle.requests.proofs.shares.are_kept.Goals as goal

pub returns : goal.returns
returns c = ap (λ (n : ℕ). leb n common_places) c.common.ensures
