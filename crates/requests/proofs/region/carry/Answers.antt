use Rattle.std.proofs.Common.{rules, ◌≡◌, sym, ap, ◌∙◌, ◌*◌, ◌+◌, cond, set, length, arith, drop, length-drop}
use borrow.Author.Tests.{eq-eqb, ne_eqb}
use Rattle.requests.specs.Model.{by}
use Rattle.requests.specs.Region.{request_of, request_at}
use Rattle.requests.specs.Calls.{carried}
use Rattle.requests.proofs.Basics.{chosen, passed_over}
use Rattle.requests.proofs.FirstPlace.{request_of-take}
use Rattle.requests.proofs.CallLaws.{put_is}
use Rattle.requests.proofs.WordLaws.{move_none}
use Rattle.requests.proofs.RestartLaws.{carry-not, carry_done}
use Rattle.requests.proofs.region.carry.Goals.{After-request_of-r, then-r-player, else-r-player+else-j-k}
use Rattle.requests.proofs.region.carry.Goals as goal

-- the request that is read is that of place k
read : (c : After-request_of-r) → c.request_of-r.result ≡ request_at c.args.region.now c.args.k
read c =
    let x = drop (c.args.k * 12) c.args.region.now in
    c.request_of-r.ensures ∙ ap request_of c.place_at-place.ensures ∙ request_of-take x (rw length-drop (omega (arith, c.requires.1, c.told-region)))

pub returns-then-not-remains : goal.returns-then-not-remains
returns-then-not-remains c =
    let a = c.args in
    carry-not a.player a.j a.k a.region.now _ (read (goal.at.returns-then-not-remains c).After-request_of-r) (sym c.remains.ensures ∙ c.if-not-remains.true)

pub returns-then-j-k : goal.returns-then-j-k
returns-then-j-k c =
    let a = c.args in
    ap (carried (a.j + 1)) (move_none a.region.now a.j a.k c.if-j-k.true c.requires.1 c.told-region)
    ∙ carry_done a.player a.j a.k a.region.now _ (read (goal.at.returns-then-j-k c).After-request_of-r) (sym c.remains.ensures ∙ c.if-not-remains.false) _
    (passed_over _ _ _ (ne_eqb c.request_of-r.result.player a.player c.if-r-player.false))

pub returns : goal.returns
returns c =
    let a = c.args in
    let p = c.if-r-player.place in
    let l : length p ≡ 12 = search rules in
    let e : p ≡ cond (by a.player c.request_of-r.result) (set c.place_at-place.result 9 1) c.place_at-place.result =
    elim c.if-r-player.branch [
      | then-r-player w ↦ w.place-is ∙ chosen _ _ _ (eq-eqb c.request_of-r.result.player a.player w.if-r-player.true)
      | else-r-player+else-j-k w ↦ w.place-is ∙ passed_over _ _ _ (ne_eqb c.request_of-r.result.player a.player w.if-r-player.false)
    ] in
    ap (carried (a.j + 1)) (rw c.write_first.ensures (put_is a.region.now p 768 (a.j * 12) c.told-region l (omega (arith, c.requires.0, c.requires.1))))
    ∙ carry_done a.player a.j a.k a.region.now _ (read (goal.at.returns c).After-request_of-r) (sym c.remains.ensures ∙ c.if-not-remains.false) p (rw c.place_at-place.ensures at e)
