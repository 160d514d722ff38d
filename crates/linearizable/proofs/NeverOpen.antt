-- An entry once guarded or restarted is never open again (document 02 §2).
-- Assumes nothing.
use mathlib.Core.Path.{◌≡◌, sym, ap, ◌∙◌, subst}
use mathlib.Core.Bool.{true, true≢false, cond}
use mathlib.Core.List.{List, [], ◌∷◌}
use mathlib.Core.Logic.{◌≢◌, inl, inr}
use Prim.Native.Nat.{ℕ}
use native.Mathlib.Omega.{arith}
use lib.ListN.{length}
use Rattle.store.specs.Model.{Store, barred, guarded, open_guard, within}
use Rattle.store.proofs.GuardChanges.{set_inside, restart_inside}
use Rattle.players.specs.Rules.{State}
use Rattle.linearizable.specs.Ledger.{Event, Ledger, Note, no_note, note_guard_request, note_read, note_write, ledger, sets, set_store, take_up, Seen, unseen, asks, reads, writes, loads, recalls, arrives, answers, grants, gives_up, restarts, bounds, bars, seen, entered}
use Rattle.linearizable.specs.Claim.{Stands, closed_by, closes, sets_over}
use Rattle.linearizable.proofs.Tests.{and_left, and_right}
use Rattle.linearizable.proofs.Standing.{stands_cons, stands_nil}
use Rattle.linearizable.proofs.Simulation.{Move, Sim, Spent}

-- what is guarded or restarted in h, or was not open at some step of it, is not open at its end
pub record NeverOpen (h : List Event) : Type 0 where
  pub again : (e : ℕ) (at : Event) (before : List Event) → Stands at before h → closes (ledger before) e at.taken at.reply ≡ true → (ledger h).store.guard e ≢ open_guard
  pub stays : (e : ℕ) (at : Event) (before : List Event) → Stands at before h → (ledger before).store.guard e ≢ open_guard → (ledger h).store.guard e ≢ open_guard

pub closed_nothing : NeverOpen []
closed_nothing = record { again = λ e at before st. absurd (stands_nil st); stays = λ e at before st. absurd (stands_nil st) }

-- a guard that is set is not open, as nothing is noted under 0
set_closed : (t : ℕ) (l : Ledger) (e n : ℕ) (w : Note) → n ≢ 0 → sets_over l e w ≡ true → (take_up t l n w).store.guard e ≢ open_guard
set_closed t l e n no_note nz c = absurd (true≢false (sym c))
set_closed t l e n (note_guard_request p g) nz c =
    let a = and_left (sets l g) (within g.low g.high e) c in
    let b = and_right (sets l g) (within g.low g.high e) c in
    subst (λ z. (cond z (set_store l (guarded l.store g.low g.high n)) l).store.guard e ≢ open_guard) (sym a) (λ z. nz (sym (set_inside l.store g.low g.high n e b) ∙ z))
set_closed t l e n (note_read p x) nz c = absurd (true≢false (sym c))
set_closed t l e n (note_write p x v g) nz c = absurd (true≢false (sym c))

closed_now : (t : ℕ) (l : Ledger) (e : ℕ) (k : Seen) → l.notes 0 ≡ no_note → closed_by l e k ≡ true → (entered t l k).store.guard e ≢ open_guard
closed_now t l e unseen u c = absurd (true≢false (sym c))
closed_now t l e (asks n p g) u c = absurd (true≢false (sym c))
closed_now t l e (reads n p x) u c = absurd (true≢false (sym c))
closed_now t l e (writes n p x v) u c = absurd (true≢false (sym c))
closed_now t l e (loads n x v) u c = absurd (true≢false (sym c))
closed_now t l e (recalls x r) u c = absurd (true≢false (sym c))
closed_now t l e (arrives n) u c = set_closed t l e n (l.notes n) (λ z. true≢false (sym c ∙ ap (sets_over l e) (ap l.notes z ∙ u))) c
closed_now t l e (answers n r) u c = absurd (true≢false (sym c))
closed_now t l e (grants n m) u c = absurd (true≢false (sym c))
closed_now t l e (gives_up n) u c = absurd (true≢false (sym c))
closed_now t l e (restarts p) u c = absurd (true≢false (sym c))
closed_now t l e (bounds x b) u c = absurd (true≢false (sym c))
closed_now t l e (bars x) u c = λ z. let y : barred ≡ open_guard = sym (restart_inside l.store x e c) ∙ z in omega arith

module _ {h : List Event} {s : State} {ev : Event} {s' : State} (sim : Sim h s (ledger h)) (spent : Spent s 0) (mv : Move h s (ledger h) ev s' (ledger (ev ∷ h))) (closed : NeverOpen h) where
  -- a guard changes to barred, or to the serial of a request in flight
  stays_closed : (e : ℕ) → (ledger h).store.guard e ≢ open_guard → (ledger (ev ∷ h)).store.guard e ≢ open_guard
  stays_closed e c z =
      let now : s'.store.guard e ≡ 0 = ap (λ (st : Store). st.guard e) (sym mv.store) ∙ z in
      elim (mv.grows.guards e) [
        | inl y ↦ c (ap (λ (st : Store). st.guard e) sim.store ∙ (sym y ∙ now))
        | inr y ↦ elim y [ inl k ↦ let b : barred ≡ 0 = sym k ∙ now in omega arith | inr k ↦ spent.1 k.0 k.1 (sym k.2 ∙ now) ]
      ]

  pub closed_step : NeverOpen (ev ∷ h)
  closed_step =
      record {
        again = λ e at before st c. elim (stands_cons st) [
          | inl q ↦ closed_now (length h) (ledger h) e (seen ev.taken ev.reply) sim.unnoted (ap (λ z. closes (ledger z) e ev.taken ev.reply) (sym q.1) ∙ (ap (λ (z : Event). closes (ledger before) e z.taken z.reply) (sym q.0) ∙ c))
          | inr k ↦ stays_closed e (closed.again e at before k c)
        ];
        stays = λ e at before st c. elim (stands_cons st) [ inl q ↦ stays_closed e (λ z. c (ap (λ y. (ledger y).store.guard e) q.1 ∙ z)) | inr k ↦ stays_closed e (closed.stays e at before k c) ];
      }
