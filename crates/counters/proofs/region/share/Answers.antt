use Rattle.std.proofs.Common.{rules, ◌≡◌, refl, sym, ap, ◌∙◌, true, false, length}
use borrow.Author.Tests.{lt-ltb, le-ltb}
use Rattle.std.specs.Prelude.{ltb}
use Rattle.counters.specs.Model.{share}
use Rattle.counters.specs.Region.{all_sound, valid, shared}
use Rattle.counters.proofs.CountLaws.{hits_at_most}
use Rattle.counters.proofs.WordLaws.{sound_at}
use Rattle.counters.proofs.region.share.Goals as goal

pub share-requires : goal.share-requires
share-requires c =
    let v : all_sound _ ≡ true = sym c.all_sound.ensures ∙ c.if-not-all_sound.false in
    rw c.counts_at.ensures (hits_at_most _ (sound_at _ _ (rw v tt)))

pub returns-then-not-all_sound : goal.returns-then-not-all_sound
unfolding shared valid
returns-then-not-all_sound c =
    let r : c.in-Some.region.now ≡ c.args.region.now = search rules in
    let l : length c.args.region.now ≡ 16 = search rules in
    let v : all_sound c.args.region.now ≡ false = rw r at (sym c.all_sound.ensures ∙ c.if-not-all_sound.true) in
    rw (l, v) refl

pub returns-then-p-ge-PLAYERS : goal.returns-then-p-ge-PLAYERS
unfolding shared valid
returns-then-p-ge-PLAYERS c =
    let r : c.in-Some.region.now ≡ c.args.region.now = search rules in
    let l : length c.args.region.now ≡ 16 = search rules in
    let v : all_sound c.args.region.now ≡ true = rw r at (sym c.all_sound.ensures ∙ c.if-not-all_sound.false) in
    let p : ltb c.args.player 8 ≡ false = le-ltb _ _ (rw c.from-p.ensures at c.if-p-ge-PLAYERS.true) in
    rw (l, v, p) refl

pub returns : goal.returns
unfolding shared valid
returns c =
    let r : c.in-Some.region.now ≡ c.args.region.now = search rules in
    let l : length c.args.region.now ≡ 16 = search rules in
    let v : all_sound c.args.region.now ≡ true = rw r at (sym c.all_sound.ensures ∙ c.if-not-all_sound.false) in
    let p : ltb c.args.player 8 ≡ true = lt-ltb _ _ (rw c.from-p.ensures at c.if-p-ge-PLAYERS.false) in
    rw (l, v, p) (c.share.ensures ∙ ap share (rw (r, c.from-p.ensures) at c.counts_at.ensures))
