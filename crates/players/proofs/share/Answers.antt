-- `players::share` meets its contract.
-- Assumes nothing.
use mathlib.Core.Path.{ap}
use Rattle.store.specs.Answers.{nothing, as_reply}
use Rattle.players.proofs.ReadShareLaws.{share_given}
use Rattle.players.proofs.share.Goals as goal

pub returns : goal.returns
returns c =
    let a = c.args in
    share_given a.store.now a.players.now (as_reply nothing c.check.result) c.check.ensures a.player (ap (λ q. (as_reply nothing q).code) c.in_ok-check.was) _ c.share.ensures
