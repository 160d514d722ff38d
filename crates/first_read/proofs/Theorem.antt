-- The promise holds, of all players, ranges, entries, states and lists of others' steps.
-- Assumes nothing.
use mathlib.Core.Path.{◌≡◌, refl}
use mathlib.Core.Bool.{Bool, true, false}
use mathlib.Core.List.{List, [], ◌∷◌}
use Prim.Native.Nat.{ℕ, zero, suc, ◌+◌, ◌<◌}
use native.Mathlib.Omega.{arith}
use borrow.Author.Tests.{eqb-true, not-true, ltb-false, leb-true, ltb-true}
use lib.Dec.{ltb, leb}
use lib.ListN.{get_or}
use Rattle.store.specs.declared.Range.{Range}
use Rattle.store.specs.Model.{serials, bad_range}
use Rattle.requests.specs.declared.Request.{Request}
use Rattle.requests.specs.Model.{any, by}
use Rattle.players.specs.Rules.{players, State, Player, owns, cleared, empty}
use Rattle.players.specs.declared.Step.TheVariants.{RequestGuard, Deliver, Respond}
use Rattle.players.specs.Played.{state_after}
use Rattle.linearizable.proofs.Tests.{and_left, and_right, clash, fill_in}
use Rattle.linearizable.proofs.RequestLists.{In, any_none}
use Rattle.first_read.specs.Promise.{all, rules_used, Others, requested, guard_serial, delivered, answered, at_read, read, read_serial, read_delivered, read_answered, supposed, FromMemory, Promise}
use Rattle.first_read.proofs.Lists.{keep_nothing}
use Rattle.first_read.proofs.Serials.{last_grows, all_grow}
use Rattle.first_read.proofs.Ranges.{InRange, from_low, below_high, entries_at, one_undivided}
use Rattle.first_read.proofs.Frame.{others_after}
use Rattle.first_read.proofs.OwnSteps.{Phase, none, only, phase_after, request_step, deliver-step, granted_to, answer-step, read_step, read_deliver_step, read_answer_step, next_step}

-- each test of those that hold
each : (bs : List Bool) → all bs ≡ true → (i : ℕ) → get_or bs i true ≡ true
each [] h i = refl
each (b ∷ bs) h zero = and_left b (all bs) h
each (b ∷ bs) h (suc i) = each bs (and_right b (all bs) h) i

module _ (s : State) (p : ℕ) (g : Range) (e : ℕ) (o : Others) (rules : all (rules_used s g) ≡ true) (h : all (supposed s p g e o) ≡ true) where
  at : (i : ℕ) → get_or (supposed s p g e o) i true ≡ true
  at = each (supposed s p g e o) h

  is_player : p < players
  is_player = ltb-true p players (at 0)

  good : bad_range g ≡ false
  good = not-true (bad_range g) (at 1)

  inside : InRange g e
  inside = at 5

  -- a serial is left at the asking, as one is left at the read
  left_at_request : s.last < serials
  left_at_request =
      let a = last_grows s (RequestGuard p g) in
      let b = all_grow (requested s p g e o).state o.before_delivery in
      let c = last_grows (state_after (requested s p g e o).state o.before_delivery) (Deliver (guard_serial s p g e o)) in
      let d = all_grow (delivered s p g e o).state o.before_answer in
      let k = last_grows (state_after (delivered s p g e o).state o.before_answer) (Respond (guard_serial s p g e o)) in
      let l = all_grow (answered s p g e o).state o.before_read in
      let m = ltb-true (at_read s p g e o).last serials (at 12) in
      omega arith

  -- where the player stands at first
  first : Phase p is_player g none [] (s.player p) (s.last + 1) s
  first =
      record {
        numbered = record { below = λ r m. ltb-false s.last r.serial (any_none (λ q. ltb s.last q.serial) s.requests (not-true _ (each (rules_used s g) rules 1)) r m); listed = λ m t. clash t refl; matched = idle };
        requests = keep_nothing (by p) s.requests idle;
        held = λ x w. refl;
        cached = λ x w. refl;
        owner = λ x w. eqb-true (s.owners.owner x) p (entries_at g (owns s p) (at 2) x w);
        epoch = λ x w. let t = leb-true (s.owners.epoch x) s.last (entries_at g (λ y. leb (s.owners.epoch y) s.last) (each (rules_used s g) rules 0) x w) in omega arith;
        undivided = one_undivided g s.store (at 3);
      }
    where
      idle : (r : Request) → In r s.requests → by p r ≡ false
      idle = any_none (by p) s.requests (not-true (any (by p) s.requests) (at 4))

  abbrev n : ℕ
  n = guard_serial s p g e o

  abbrev m : ℕ
  m = read_serial s p g e o

  -- the player's guards and cached values once its guard is granted
  abbrev guarded_player : Player
  guarded_player = granted_to p is_player g n (cleared g.low g.high (s.player p))

  held : guarded_player.held e ≡ n
  held = fill_in g.low g.high n (cleared g.low g.high (s.player p)).held e (from_low g e inside) (below_high g e inside)

  nothing : guarded_player.cached e ≡ empty
  nothing = fill_in g.low g.high empty (s.player p).cached e (from_low g e inside) (below_high g e inside)

  pub kept : FromMemory s p g e o
  kept =
      let x1 = request_step p is_player g s first good left_at_request in
      let z = x1.1 in
      let f1 = phase_after p is_player g x1.2 (others_after p is_player g (only n) (requested s p g e o).state x1.2.numbered o.before_delivery (at 6)) in
      let x2 = deliver-step p is_player g n _ f1 in
      let f2 = phase_after p is_player g x2.1 (others_after p is_player g (only n) (delivered s p g e o).state x2.1.numbered o.before_answer (at 7)) in
      let x3 = answer-step p is_player g n _ f2 in
      let f3 = phase_after p is_player g x3.1 (others_after p is_player g none (answered s p g e o).state x3.1.numbered o.before_read (at 8)) in
      let x4 = read_step p is_player g e n inside z (at_read s p g e o) f3 (ltb-true (at_read s p g e o).last serials (at 12)) held nothing in
      let f4 = phase_after p is_player g x4.1 (others_after p is_player g (only m) (read s p g e o).state x4.1.numbered o.before_read_delivery (at 9)) in
      let x5 = read_deliver_step p is_player g e n inside z m _ f4 in
      let f5 = phase_after p is_player g x5.1 (others_after p is_player g (only m) (read_delivered s p g e o).state x5.1.numbered o.before_read_answer (at 10)) in
      let x6 = read_answer_step p is_player g e n inside z m _ _ _ held f5 in
      let f6 = phase_after p is_player g x6.1 (others_after p is_player g none (read_answered s p g e o).state x6.1.numbered o.before_next (at 11)) in
      let x7 = next_step p is_player g e n inside z guarded_player _ _ _ held f6 in
      record { requesting = x1.0; delivering = x2.0; answering = x3.0; reading = x4.0; read_delivering = x5.0; read_answering = rw x6.0; from_memory = rw x6.0 x7 }

pub theorem : (s : State) (p : ℕ) (g : Range) (e : ℕ) (o : Others) → Promise s p g e o
theorem s p g e o rules h = kept s p g e o rules h
