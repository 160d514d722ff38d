-- The tables' rules bring the one that the promise uses; and from fresh tables on, what comes from memory is what the store holds.
-- Assumes nothing.
use mathlib.Core.Path.{◌≡◌, refl, ap, ◌∙◌}
use mathlib.Core.Bool.{true, not}
use mathlib.Core.List.{List, [], ◌∷◌}
use Prim.Native.Nat.{ℕ}
use native.Mathlib.Omega.{arith}
use borrow.Author.Tests.{leb-true, le-leb, le-ltb}
use lib.Dec.{T, leb, ltb}
use Rattle.store.specs.Model.{serials}
use Rattle.store.specs.declared.Range.{Range}
use Rattle.requests.specs.Region.{request_holds}
use Rattle.requests.specs.Shares.{no_place}
use Rattle.requests.proofs.Basics.{is_true, and_left}
use Rattle.requests.proofs.Rising.{each_at}
use Rattle.players.specs.declared.Step.{Step}
use Rattle.players.specs.declared.Step.TheVariants.{RequestGuard, Read, Deliver, Respond}
use Rattle.players.specs.Replies.{cache_read, out_of_range, no_place_left, no_serial_left}
use Rattle.players.specs.Rules.{State, Result, fresh, players, cache_hit, read_from_cache, read_from_store, need_serial, need_place, step}
use Rattle.players.specs.Played.{state_after}
use Rattle.players.proofs.Tables.{Ok, ok_fresh}
use Rattle.players.proofs.StepFacts.{check_elim, cache_hit_shown}
use Rattle.players.proofs.PlayedLaws.{ok_after}
use Rattle.linearizable.proofs.Tests.{and-true, cond_elim}
use Rattle.linearizable.proofs.Invariant.{Inv}
use Rattle.linearizable.proofs.KeptByStep.{fresh_inv}
use Rattle.linearizable.proofs.EveryStep.{step_keeps}
use Rattle.first_read.specs.Promise.{all, rules_used, Others, at_next, guard_serial, read_serial, FreshPromise}
use Rattle.first_read.proofs.Lists.{none_any}
use Rattle.first_read.proofs.Ranges.{entries_all}
use Rattle.first_read.proofs.Theorem.{theorem}

-- ‘No serial in a table exceeds the last one issued’
pub ok_rules : (s : State) (g : Range) → Ok s → all (rules_used s g) ≡ true
unfolding request_holds
ok_rules s g k =
    let epochs = entries_all g (λ e. leb (s.owners.epoch e) s.last) (λ e w. le-leb (s.owners.epoch e) s.last (k.owners.epoch e)) in
    let serials = none_any (λ r. ltb s.last r.serial) s.requests
    (λ r i. le-ltb s.last r.serial (leb-true r.serial s.last (is_true (leb r.serial s.last) (and_left (leb r.serial s.last) _ (each_at (λ q. T (request_holds s.last q)) 0 s.requests k.requests r i))))) in
    and-true _ _ epochs (and-true _ true (ap not serials) refl)

-- ---- what comes from memory

after_keeps : (s : State) (xs : List Step) → Inv s → Inv (state_after s xs)
unfolding state_after
after_keeps s [] i = i
after_keeps s (x ∷ xs) i = after_keeps (step s x).state xs (step_keeps s x i)

-- a reply 2 gives what the store holds
held : (s : State) → Inv s → (p e : ℕ) → (step s (Read p e)).reply.code ≡ 2 → (step s (Read p e)).reply ≡ cache_read (s.store.version e) (s.store.value e)
held s i p e =
    check_elim Gives s (leb players p) out_of_range _ (λ z. absurd (omega arith))
    (λ _. cond_elim Gives (cache_hit s p e) (read_from_cache s p e) (need_place s p (read_from_store s p e))
    (λ t _.
    let h = cache_hit_shown s p e t in
    let c = i.cached p e h.guard h.live in
    ap (λ n. cache_read n ((s.player p).cached e).value) c.version ∙ ap (cache_read (s.store.version e)) c.value)
    (λ _. check_elim Gives s (no_place p s.requests) no_place_left (need_serial s (read_from_store s p e)) (λ z. absurd (omega arith))
    (λ _. check_elim Gives s (leb serials s.last) no_serial_left (read_from_store s p e) (λ z. absurd (omega arith)) (λ _ z. absurd (omega arith)))))
  where
    Gives : Result → Type 0
    Gives r = r.reply.code ≡ 2 → r.reply ≡ cache_read (s.store.version e) (s.store.value e)

pub fresh_theorem : (before : List Step) (p : ℕ) (g : Range) (e : ℕ) (o : Others) → FreshPromise before p g e o
fresh_theorem before p g e o f h =
    let s = state_after fresh before in
    let i = after_keeps fresh before fresh_inv in
    let i1 = after_keeps _ o.before_delivery (step_keeps s (RequestGuard p g) i) in
    let i2 = after_keeps _ o.before_answer (step_keeps _ (Deliver (guard_serial s p g e o)) i1) in
    let i3 = after_keeps _ o.before_read (step_keeps _ (Respond (guard_serial s p g e o)) i2) in
    let i4 = after_keeps _ o.before_read_delivery (step_keeps _ (Read p e) i3) in
    let i5 = after_keeps _ o.before_read_answer (step_keeps _ (Deliver (read_serial s p g e o)) i4) in
    let i6 = after_keeps _ o.before_next (step_keeps _ (Respond (read_serial s p g e o)) i5) in
    held (at_next s p g e o) i6 p e (ap (λ r. r.code) (theorem s p g e o (ok_rules s g (ok_after fresh ok_fresh before f)) h).from_memory)
