-- `players::rules::players_hold` meets its contract.
-- Assumes nothing.
use mathlib.Core.Path.{sym, ◌∙◌}
use Rattle.players.proofs.CheckLaws.{table_last, table_owners, table_epochs, table_held, table_values, table_requests, table_counters}
use Rattle.players.proofs.rules.players_hold.Goals as goal

pub returns-then-last-gt-SERIALS : goal.returns-then-last-gt-SERIALS
returns-then-last-gt-SERIALS c = table_last c.args.players.now c.if-last-gt-SERIALS.true

pub returns-then-not-at_most : goal.returns-then-not-at_most
returns-then-not-at_most c =
    table_owners c.args.players.now c.if-last-gt-SERIALS.false
    (sym c.at_most.ensures ∙ c.if-not-at_most.true)

pub returns-then-not-at_most-2 : goal.returns-then-not-at_most-2
returns-then-not-at_most-2 c =
    table_epochs c.args.players.now c.if-last-gt-SERIALS.false
    (sym c.at_most.ensures ∙ c.if-not-at_most.false)
    (sym c.at_most-2.ensures ∙ c.if-not-at_most-2.true)

pub returns-then-not-at_most-3 : goal.returns-then-not-at_most-3
returns-then-not-at_most-3 c =
    table_held c.args.players.now c.if-last-gt-SERIALS.false
    (sym c.at_most.ensures ∙ c.if-not-at_most.false)
    (sym c.at_most-2.ensures ∙ c.if-not-at_most-2.false)
    (sym c.at_most-3.ensures ∙ c.if-not-at_most-3.true)

pub returns-then-not-values_hold : goal.returns-then-not-values_hold
returns-then-not-values_hold c =
    table_values c.args.players.now c.if-last-gt-SERIALS.false
    (sym c.at_most.ensures ∙ c.if-not-at_most.false)
    (sym c.at_most-2.ensures ∙ c.if-not-at_most-2.false)
    (sym c.at_most-3.ensures ∙ c.if-not-at_most-3.false)
    (sym c.values_hold.ensures ∙ c.if-not-values_hold.true)

pub returns-then-not-holds : goal.returns-then-not-holds
returns-then-not-holds c =
    table_requests c.args.players.now c.if-last-gt-SERIALS.false
    (sym c.at_most.ensures ∙ c.if-not-at_most.false)
    (sym c.at_most-2.ensures ∙ c.if-not-at_most-2.false)
    (sym c.at_most-3.ensures ∙ c.if-not-at_most-3.false)
    (sym c.values_hold.ensures ∙ c.if-not-values_hold.false)
    (sym c.holds.ensures ∙ c.if-not-holds.true)

pub returns : goal.returns
returns c =
    table_counters c.args.players.now c.if-last-gt-SERIALS.false
    (sym c.at_most.ensures ∙ c.if-not-at_most.false)
    (sym c.at_most-2.ensures ∙ c.if-not-at_most-2.false)
    (sym c.at_most-3.ensures ∙ c.if-not-at_most-3.false)
    (sym c.values_hold.ensures ∙ c.if-not-values_hold.false)
    (sym c.holds.ensures ∙ c.if-not-holds.false)
    _ c.holds-2.ensures
