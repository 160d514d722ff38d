-- `steps::apply_on` meets its contract: one law and one contract for each kind of step.
-- Assumes nothing.
use mathlib.Core.Path.{refl}
use Rattle.players.specs.declared.Step.TheVariants.{Assign, Release, RequestGuard, Read, Write, Deliver, Respond, Abandon, Lose, Split, Merge, RestartTablet, RestartPlayer, FindInterval, Load}
use Rattle.steps.proofs.JoinLaws.{moves_refines, shifts_refines, acts_refines, both_long}
use Rattle.steps.proofs.apply_on.Goals as goal

pub returns-in-Assign : goal.returns-in-Assign
returns-in-Assign c =
    let a = c.args in
    let w = both_long a.store.now a.players.now c.told-store c.told-players in
    rw c.in-Assign.is (moves_refines (Assign c.in-Assign.player c.in-Assign.range) a.store.now a.players.now w _ _ refl c.assign.ensures)

pub returns-in-Release : goal.returns-in-Release
returns-in-Release c =
    let a = c.args in
    let w = both_long a.store.now a.players.now c.told-store c.told-players in
    rw c.in-Release.is (moves_refines (Release c.in-Release.range) a.store.now a.players.now w _ _ refl c.release.ensures)

pub returns-in-RequestGuard : goal.returns-in-RequestGuard
returns-in-RequestGuard c =
    let a = c.args in
    let w = both_long a.store.now a.players.now c.told-store c.told-players in
    rw c.in-RequestGuard.is (moves_refines (RequestGuard c.in-RequestGuard.player c.in-RequestGuard.range) a.store.now a.players.now w _ _ refl c.request_guard.ensures)

pub returns-in-Read : goal.returns-in-Read
returns-in-Read c =
    let a = c.args in
    let w = both_long a.store.now a.players.now c.told-store c.told-players in
    rw c.in-Read.is (moves_refines (Read c.in-Read.player c.in-Read.entry) a.store.now a.players.now w _ _ refl c.read.ensures)

pub returns-in-Write : goal.returns-in-Write
returns-in-Write c =
    let a = c.args in
    let w = both_long a.store.now a.players.now c.told-store c.told-players in
    rw c.in-Write.is (moves_refines (Write c.in-Write.player c.in-Write.entry c.in-Write.value) a.store.now a.players.now w _ _ refl c.write.ensures)

pub returns-in-Deliver : goal.returns-in-Deliver
returns-in-Deliver c =
    let a = c.args in
    let w = both_long a.store.now a.players.now c.told-store c.told-players in
    rw c.in-Deliver.is (acts_refines (Deliver c.in-Deliver.serial) a.store.now a.players.now w _ _ _ c.deliver.ensures)

pub returns-in-Respond : goal.returns-in-Respond
returns-in-Respond c =
    let a = c.args in
    let w = both_long a.store.now a.players.now c.told-store c.told-players in
    rw c.in-Respond.is (moves_refines (Respond c.in-Respond.serial) a.store.now a.players.now w _ _ refl c.respond.ensures)

pub returns-in-Abandon : goal.returns-in-Abandon
returns-in-Abandon c =
    let a = c.args in
    let w = both_long a.store.now a.players.now c.told-store c.told-players in
    rw c.in-Abandon.is (moves_refines (Abandon c.in-Abandon.serial) a.store.now a.players.now w _ _ refl c.abandon.ensures)

pub returns-in-Lose : goal.returns-in-Lose
returns-in-Lose c =
    let a = c.args in
    let w = both_long a.store.now a.players.now c.told-store c.told-players in
    rw c.in-Lose.is (moves_refines (Lose c.in-Lose.serial) a.store.now a.players.now w _ _ refl c.lose.ensures)

pub returns-in-Split : goal.returns-in-Split
returns-in-Split c =
    let a = c.args in
    let w = both_long a.store.now a.players.now c.told-store c.told-players in
    rw c.in-Split.is (shifts_refines (Split c.in-Split.entry) a.store.now a.players.now w _ _ c.split.ensures)

pub returns-in-Merge : goal.returns-in-Merge
returns-in-Merge c =
    let a = c.args in
    let w = both_long a.store.now a.players.now c.told-store c.told-players in
    rw c.in-Merge.is (shifts_refines (Merge c.in-Merge.entry) a.store.now a.players.now w _ _ c.merge.ensures)

pub returns-in-RestartTablet : goal.returns-in-RestartTablet
returns-in-RestartTablet c =
    let a = c.args in
    let w = both_long a.store.now a.players.now c.told-store c.told-players in
    rw c.in-RestartTablet.is (shifts_refines (RestartTablet c.in-RestartTablet.entry) a.store.now a.players.now w _ _ c.restart_tablet.ensures)

pub returns-in-RestartPlayer : goal.returns-in-RestartPlayer
returns-in-RestartPlayer c =
    let a = c.args in
    let w = both_long a.store.now a.players.now c.told-store c.told-players in
    rw c.in-RestartPlayer.is (moves_refines (RestartPlayer c.in-RestartPlayer.player) a.store.now a.players.now w _ _ refl c.restart_player.ensures)

pub returns-in-FindInterval : goal.returns-in-FindInterval
returns-in-FindInterval c =
    let a = c.args in
    let w = both_long a.store.now a.players.now c.told-store c.told-players in
    rw c.in-FindInterval.is (shifts_refines (FindInterval c.in-FindInterval.entry) a.store.now a.players.now w _ _ c.find_interval.ensures)

pub returns-in-Load : goal.returns-in-Load
returns-in-Load c =
    let a = c.args in
    let w = both_long a.store.now a.players.now c.told-store c.told-players in
    rw c.in-Load.is (moves_refines (Load c.in-Load.entry c.in-Load.value) a.store.now a.players.now w _ _ refl c.load.ensures)
