-- Nothing but the counters depends on them: with other counts every step gives the same reply, and leaves the same state but for the counts.
-- Assumes nothing.
use mathlib.Core.Path.{◌≡◌, refl, ap, ◌∙◌}
use mathlib.Core.Bool.{Bool, true, false, cond, not, ◌||◌}
use mathlib.Core.List.{List, [], ◌∷◌}
use Prim.Native.Nat.{ℕ}
use lib.Dec.{leb, eqb}
use Rattle.store.specs.Model.{serials, bad_range, one_tablet, commits}
use Rattle.store.specs.declared.Reply.{Reply}
use Rattle.requests.specs.declared.Request.{Request}
use Rattle.requests.specs.declared.Fit.TheVariants.{Undelivered, Answerable, Pending, Abandoned}
use Rattle.requests.specs.Shares.{no_place}
use Rattle.requests.specs.Model.{loader, is_guard_request, is_read, is_write, is_load, requesting, named, any, find}
use Rattle.counters.specs.declared.Counts.{Counts}
use Rattle.players.specs.declared.Step.{Step}
use Rattle.players.specs.declared.Step.TheVariants.{Assign, Release, RequestGuard, Read, Write, Deliver, Respond, Abandon, Lose, Split, Merge, RestartTablet, RestartPlayer, FindInterval, Load}
use Rattle.players.specs.Replies.{refusal, out_of_range, not_owner, no_live_guard, already_requested, no_such_request, no_place_left, no_serial_left, wrong_boundary}
use Rattle.players.specs.Rules.{State, Result, with_counters, players, all_entries, owns, live, cache_hit, still_owned, may_cache, deliver, respond, abandon, lose, check, need_serial, need_place, step}
use Rattle.players.specs.Played.{state_after}
use Rattle.read_counts.specs.Claim.{without_counts, Unseen}

-- two results that differ in the counts alone
record Same (x y : Result) : Type 0 where
  reply : x.reply ≡ y.reply
  state : without_counts x.state ≡ without_counts y.state

module _ (s : State) (cs : ℕ → Counts) where
  -- the state with other counts
  abbrev t : State
  t = with_counters s cs

  chosen : (b : Bool) (x x' y y' : Result) → Same x y → Same x' y' → Same (cond b x x') (cond b y y')
  chosen true x x' y y' h k = h
  chosen false x x' y y' h k = k

  checked : (b : Bool) (n : ℕ) (x y : Result) → Same x y → Same (check t b n x) (check s b n y)
  checked true n x y h = record { reply = refl; state = refl }
  checked false n x y h = h

  serial : (x y : Result) → Same x y → Same (need_serial t x) (need_serial s y)
  serial x y h = checked (leb serials s.last) no_serial_left x y h

  place : (p : ℕ) (x y : Result) → Same x y → Same (need_place t p x) (need_place s p y)
  place p x y h = checked (no_place p s.requests) no_place_left (need_serial t x) (need_serial s y) (serial x y h)

  found : (f : Request → Bool) (rs : List Request) (go go' : Request → Result) → ((r : Request) → Same (go r) (go' r))
      → Same (find f rs (record { state = t; reply = refusal no_such_request }) go) (find f rs (record { state = s; reply = refusal no_such_request }) go')
  found f [] go go' h = record { reply = refl; state = refl }
  found f (r ∷ rs) go go' h = chosen (f r) (go r) _ (go' r) _ (h r) (found f rs go go' h)

  -- a choice of the state
  stored : (b : Bool) (u u' v v' : State) → without_counts u ≡ without_counts v → without_counts u' ≡ without_counts v' → without_counts (cond b u u') ≡ without_counts (cond b v v')
  stored true u u' v v' h k = h
  stored false u u' v v' h k = k

  delivered : (r : Request) → Same (deliver t r) (deliver s r)
  delivered r =
      chosen (is_guard_request r) _ _ _ _ (chosen (one_tablet s.store r.low r.high) _ _ _ _ (record { reply = refl; state = refl }) (record { reply = refl; state = refl }))
      (chosen (is_read r) _ _ _ _ (record { reply = refl; state = refl }) (chosen (commits s.store r.low r.guard) _ _ _ _ (record { reply = refl; state = refl }) (record { reply = refl; state = refl })))

  responded : (r : Request) → Same (respond t r) (respond s r)
  responded r =
      chosen (is_guard_request r) _ _ _ _ (chosen (still_owned s r) _ _ _ _ (chosen (eqb r.first 1) _ _ _ _ (record { reply = refl; state = refl }) (record { reply = refl; state = refl })) (record { reply = refl; state = refl }))
      (chosen (is_read r) _ _ _ _ (record { reply = refl; state = stored (may_cache s r) _ _ _ _ refl refl })
      (chosen (eqb r.first 1) _ _ _ _ (record { reply = refl; state = stored (may_cache s r) _ _ _ _ refl refl }) (record { reply = refl; state = stored (is_load r) _ _ _ _ refl refl })))

  abandoned : (r : Request) → Same (abandon t r) (abandon s r)
  abandoned r = record { reply = refl; state = stored (is_write r) _ _ _ _ (stored (is_load r) _ _ _ _ refl refl) refl }

  step_same : (x : Step) → Same (step t x) (step s x)
  step_same (Assign p g) = checked (leb players p || bad_range g) out_of_range _ _ (serial _ _ (record { reply = refl; state = refl }))
  step_same (Release g) = checked (bad_range g) out_of_range _ _ (serial _ _ (record { reply = refl; state = refl }))
  step_same (RequestGuard p g) =
      checked (leb players p || bad_range g) out_of_range _ _
      (checked (not (all_entries (owns s p) g.low g.high)) not_owner _ _ (checked (any (requesting p g) s.requests) already_requested _ _ (place p _ _ (record { reply = refl; state = refl }))))
  step_same (Read p e) = checked (leb players p) out_of_range _ _ (chosen (cache_hit s p e) _ _ _ _ (record { reply = refl; state = refl }) (place p _ _ (record { reply = refl; state = refl })))
  step_same (Write p e v) =
      checked (leb players p) out_of_range _ _ (checked (not (owns s p e)) not_owner _ _ (checked (not (live s p e)) no_live_guard _ _ (place p _ _ (record { reply = refl; state = refl }))))
  step_same (Deliver n) = found (named Undelivered n) s.requests (deliver t) (deliver s) delivered
  step_same (Respond n) = found (named Answerable n) s.requests (respond t) (respond s) responded
  step_same (Abandon n) = found (named Pending n) s.requests (abandon t) (abandon s) abandoned
  step_same (Lose n) = found (named Abandoned n) s.requests (lose t) (lose s) (λ r. record { reply = refl; state = refl })
  step_same (Split e) = checked (eqb e 0) out_of_range _ _ (checked (eqb (s.store.boundary e) 1) wrong_boundary _ _ (record { reply = refl; state = refl }))
  step_same (Merge e) = checked (eqb e 0) out_of_range _ _ (checked (eqb (s.store.boundary e) 0) wrong_boundary _ _ (record { reply = refl; state = refl }))
  step_same (RestartTablet e) = (record { reply = refl; state = refl })
  step_same (RestartPlayer p) = checked (leb players p) out_of_range _ _ (record { reply = refl; state = refl })
  step_same (FindInterval e) = (record { reply = refl; state = refl })
  step_same (Load e v) = place loader _ _ (record { reply = refl; state = refl })

pub counters_unseen : (s : State) (cs : ℕ → Counts) (xs : List Step) → Unseen s cs xs
unfolding state_after
counters_unseen s cs [] = record { replied = refl; left = refl }
counters_unseen s cs (x ∷ xs) =
    let a = step_same s cs x in
    let u = (step (with_counters s cs) x).state in
    let v = (step s x).state in
    let e : u ≡ with_counters v u.counters = ap (λ (w : State). with_counters w u.counters) a.state in
    let i = counters_unseen v u.counters xs in
    record {
      replied = rw (a.reply, e) (ap (λ (l : List Reply). (step s x).reply ∷ l) i.replied);
      left = ap (λ (w : State). without_counts (state_after w xs)) e ∙ i.left;
    }
