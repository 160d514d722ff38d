-- `listing::list` meets its contract.
-- Assumes nothing.
use mathlib.Core.Path.{refl}
use native.Mathlib.Omega.{arith}
use lib.ListN.{replicate}
use Rattle.store.specs.Answers.{nothing, as_reply}
use Rattle.session.specs.Reports.{reported}
use Rattle.listing.proofs.PrintedLaws.{told, is_printed}
use Rattle.players.specs.Table.{players_words}
use Rattle.listing.proofs.list.Goals as goal

pub lines-requires : goal.lines-requires
lines-requires c =
    let u = c.run-report in
    let f = c.fresh in
    let a = c.args in
    let t = told (replicate 1280 0) (replicate players_words 0) (as_reply nothing f.result) _ _ refl f.ensures a.session.now _ refl (reported u.result) _ _ _ u.ensures in
    (omega (arith, t.few), omega (arith, t.few))

pub returns : goal.returns
returns c =
    let u = c.run-report in
    let f = c.fresh in
    let a = c.args in
    let t = told (replicate 1280 0) (replicate players_words 0) (as_reply nothing f.result) _ _ refl f.ensures a.session.now _ refl (reported u.result) _ _ _ u.ensures in
    let l = c.lines in
    (l.ensures.0, is_printed a.session.now (reported u.result) _ t l.result _ l.ensures.1)
