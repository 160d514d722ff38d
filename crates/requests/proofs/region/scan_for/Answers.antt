use Rattle.std.proofs.Common.{rules, ◌≡◌, ◌<◌, ◌+◌, ℕ, List, length, get_or, set, arith}
use Rattle.std.specs.Prelude.{Bool, true, false, ◌||◌, cond, eqb}
use Rattle.std.proofs.lemmas.Grind.{common_steps}
use Rattle.requests.specs.Region.{requests_of}
use Rattle.requests.proofs.CountLaws.{count_most}
use Rattle.requests.proofs.FirstPlace.{requests_of-length}
use Rattle.requests.proofs.region.scan_for.Given.{Over}
use Rattle.requests.proofs.region.scan_for.Goals as goal

-- one more at place q
counts_more : (cs : List ℕ) (q p : ℕ) → q < length cs → get_or (set cs q (get_or cs q 0 + 1)) p 0 ≡ get_or cs p 0 + cond (eqb q p) 1 0
counts_more cs q p h = grind (arith, common_steps)

pub overflow_add-counts : goal.overflow_add-counts
overflow_add-counts g c =
    grind (arith, requests_of-length c.args.region.now, c.loop-request.invariant.5 c.from-sender.result c.if-sender-lt-SENDERS.true, count_most c.from-sender.result (requests_of c.args.region.now))

pub overflow_add-used : goal.overflow_add-used
overflow_add-used g c = grind (arith, requests_of-length c.args.region.now)

-- a request is counted as its player's
sender_is : (g : Over) (c : goal.Then-sender-lt-SENDERS g) → c.from-sender.result ≡ c.in-Some.request.player
sender_is g c = c.from-sender.ensures

pub loop-request-preserved-then-sender-lt-SENDERS : goal.loop-request-preserved-then-sender-lt-SENDERS
loop-request-preserved-then-sender-lt-SENDERS g c = let s = sender_is g c in search rules

-- a test that holds of one of those seen, of one more, or of one of those left
one_test : (a b c d x : Bool) → x ≡ a || (b || c) → d ≡ b → x ≡ (a || d) || c
one_test true b c d x e f = e
one_test false b c d x e f = rw f e

pub loop-request-preserved : goal.loop-request-preserved
loop-request-preserved g c =
    let l = c.loop-request in
    let h = one_test _ _ _ _ _ (rw c.in-Some.ensures.steps at l.invariant.3) c.holds-hit.ensures in
    (tt, tt, search rules, h, l.invariant.4, λ p b. search rules)
