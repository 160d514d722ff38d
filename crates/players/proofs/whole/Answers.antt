-- `players::whole` meets its contract.
-- Assumes nothing.
use Rattle.players.proofs.whole.Goals as goal

pub returns-then-store-eq-WORDS : goal.returns-then-store-eq-WORDS
returns-then-store-eq-WORDS c = rw (c.if-store-eq-WORDS.true)
