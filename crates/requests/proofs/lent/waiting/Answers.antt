use Rattle.std.proofs.Common.{rules, ◌≡◌, ap, ◌∙◌, arith, count_by, ℕ}
use Rattle.store.specs.Calls.{reply}
use Rattle.requests.specs.Lent.{counts}
use Rattle.requests.proofs.LentLaws.{waiting_count, waiting_places, waiting_player}
use Rattle.requests.proofs.lent.waiting.Goals.{After-count-count}
use Rattle.requests.proofs.lent.waiting.Goals as goal

-- all places are counted that hold a pending request of the player
counted : (c : After-count-count) → c.count-count.result ≡ count_by (counts c.args.player) c.args.list.now
counted c = search rules

pub returns-then-list-ne-PLACES : goal.returns-then-list-ne-PLACES
returns-then-list-ne-PLACES c = waiting_places _ _ c.if-list-ne-PLACES.true

pub returns-then-player-ge-LOADER : goal.returns-then-player-ge-LOADER
returns-then-player-ge-LOADER c = waiting_player _ _ c.if-list-ne-PLACES.false c.if-player-ge-LOADER.true

pub returns : goal.returns
returns c =
    ap (λ (n : ℕ). reply 0 n 0) (counted c) ∙ waiting_count _ _ c.if-list-ne-PLACES.false (omega (arith, c.if-player-ge-LOADER.false))
