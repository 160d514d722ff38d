-- The promise holds of tables, of runs over session bytes and of any calls.
-- Assumes nothing.
use mathlib.Core.Path.{◌≡◌, refl, sym, ap, ◌∙◌, subst}
use mathlib.Core.Bool.{Bool, true, false}
use mathlib.Core.List.{List, [], ◌∷◌, ◌++◌, append-nil}
use Prim.Native.Nat.{ℕ}
use native.Mathlib.Omega.{arith}
use Rattle.store.specs.declared.Range.{Range}
use Rattle.store.specs.declared.Reply.{Reply}
use Rattle.players.specs.declared.Step.{Step}
use Rattle.players.specs.Rules.{State, replies}
use Rattle.players.specs.Table.{valid}
use Rattle.players.specs.Calls.{whole}
use Rattle.players.specs.Played.{AllFit, Tables, Keeps, held_in, state_after, played}
use Rattle.players.proofs.Tables.{Ok}
use Rattle.players.proofs.PlayedLaws.{played_is, ok_after, held_ok, held_tables}
use Rattle.linearizable.specs.Calls.{Call, a_run, all_steps, all_replies}
use Rattle.linearizable.proofs.CallsTheorem.{all as all_calls}
use Rattle.first_read.specs.Promise.{all, Others, next, supposed}
use Rattle.first_read.specs.Lines.{line, told}
use Rattle.first_read.specs.Calls.{TablesPromise, Told, RunPromise, CallsPromise}
use Rattle.first_read.proofs.FreshTheorem.{ok_rules}
use Rattle.first_read.proofs.LineTheorem.{followed, joined, line_taken, line_theorem}

-- ---- the promise

fit_before : (xs ys : List Step) → AllFit (xs ++ ys) → AllFit xs
fit_before [] ys f = tt
fit_before (x ∷ xs) ys f = (f.0, fit_before xs ys f.1)

-- the code of the first reply
abbrev first_code : List Reply → ℕ
first_code [] = 0
first_code (r ∷ rs) = r.code

module _ (p : ℕ) (g : Range) (e : ℕ) (o : Others) where
  -- of a list of steps among which those of the promise stand
  among : (s : State) (before after : List Step) → Ok s → AllFit before → let s' = state_after s before in
      all (supposed s' p g e o) ≡ true → Told p g e o s before after (replies s (before ++ (line s' p g e o ++ after)))
  among s before after k f h =
      let s' = state_after s before in
      let t = line_taken s' p g e o (ok_rules s' g (ok_after s k before f)) h in
      (joined s before _ _ _ (followed s' (line s' p g e o) after (told s' p g e o) (next s' p g e o).state t)).replied

  pub tables_theorem : (u : Tables) → TablesPromise p g e o u
  tables_theorem u c f h =
      let s = held_in u in
      subst (λ (y : Tables). played y.store y.players (line s p g e o) ≡ told s p g e o) (held_tables u c)
      (played_is s (held_ok u c) (line s p g e o) f ∙ line_theorem s p g e o (ok_rules s g (held_ok u c)) h)

  -- that the tables keep the rules is needed, whatever else holds: where `check` refuses, so does the first call
  pub tables_needed : (u : Tables) → (Keeps u → ⊥) → played u.store u.players (line (held_in u) p g e o) ≡ told (held_in u) p g e o → ⊥
  unfolding played
  tables_needed u refused h = by (whole u.store u.players) (valid u.store u.players) refl refl (ap first_code h)
    where
      by : (w v : Bool) → whole u.store u.players ≡ w → valid u.store u.players ≡ v → first_code (played u.store u.players (line (held_in u) p g e o)) ≡ 1 → ⊥
      by true true w v k = refused (rw (w, v))
      by true false w v k = let z : ◌≡◌ {A = ℕ} 22 1 = rw (w, v) at k in omega arith
      by false v w _ k = let z : ◌≡◌ {A = ℕ} 21 1 = rw w at k in omega arith

  pub calls_theorem : (u : Tables) (cs : List Call) (before after : List Step) → CallsPromise p g e o u cs before after
  calls_theorem u cs before after c handed steps h =
      let s = held_in u in
      let a = all_calls s (held_ok u c) cs handed in
      ap (λ (y : Tables). all_replies y cs) (sym (held_tables u c)) ∙ a.replied ∙ ap (replies s) steps ∙ among s before after (held_ok u c) (fit_before before _ (subst AllFit steps a.fit)) h

  pub run_theorem : (u : Tables) (session : List ℕ) (budget : ℕ) (list : List ℕ) (before after : List Step) → RunPromise p g e o u session budget list before after
  unfolding all_steps all_replies
  run_theorem u session budget list before after c bytes steps h =
      sym (append-nil _) ∙ calls_theorem u (a_run session budget list ∷ []) before after c (bytes, tt) (append-nil _ ∙ steps) h
