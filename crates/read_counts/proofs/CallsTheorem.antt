-- The claim about runs over session bytes and about any calls.
-- Assumes nothing.
use mathlib.Core.Path.{◌≡◌, refl, sym, ap, ◌∙◌, subst}
use mathlib.Core.List.{List, [], ◌∷◌, append-nil}
use Prim.Native.Nat.{ℕ, ◌+◌, ◌≤◌}
use native.Mathlib.Omega.{arith}
use lib.ListN.{length}
use Rattle.counters.specs.declared.Counts.{Counts}
use Rattle.counters.specs.Model.{most}
use Rattle.players.specs.Rules.{State, replies}
use Rattle.players.specs.Table.{state_of}
use Rattle.players.specs.Played.{Tables, held_in, tables_of, state_after}
use Rattle.players.proofs.Tables.{state_table}
use Rattle.players.proofs.PlayedLaws.{held_ok, held_tables}
use Rattle.session.specs.Runs.{steps, whole_places}
use Rattle.linearizable.specs.Calls.{Call, a_run, all_steps, all_replies, after_all}
use Rattle.linearizable.proofs.CallsTheorem.{all as all_calls}
use Rattle.read_counts.specs.Calls.{counts_in, RunCounted, CallsGrow}
use Rattle.read_counts.proofs.FewSteps.{few_steps}
use Rattle.read_counts.proofs.Theorem.{steps_grow, from_zero}

-- the words of a player's counter, and the counter of the state that the tables hold
in_state : (u : Tables) (p : ℕ) → counts_in u.players p ≡ (held_in u).counters p
unfolding state_of
in_state u p = refl

pub calls_theorem : (u : Tables) (cs : List Call) (p : ℕ) → CallsGrow u cs p
calls_theorem u cs p c handed h =
    let s = held_in u in
    let k = held_ok u c in
    let a = all_calls s k cs handed in
    let xs = all_steps cs in
    let room : (s.counters p).answered + length xs ≤ most = subst (λ (d : Counts). d.answered + length xs ≤ most) (in_state u p) h in
    let g = steps_grow p s k xs a.fit room in
    let replied : all_replies u cs ≡ replies s xs = ap (λ (y : Tables). all_replies y cs) (sym (held_tables u c)) ∙ a.replied in
    let left : after_all u cs ≡ tables_of (state_after s xs) = ap (λ (y : Tables). after_all y cs) (sym (held_tables u c)) ∙ a.left in
    let now : counts_in (after_all u cs).players p ≡ (state_after s xs).counters p =
    in_state (after_all u cs) p ∙ ap (λ (y : Tables). (held_in y).counters p) left ∙ ap (λ (t : State). t.counters p) (state_table (state_after s xs) a.ok) in
    rw (replied, now, in_state u p) g

pub run_theorem : (u : Tables) (session : List ℕ) (budget : ℕ) (list : List ℕ) (p : ℕ) → RunCounted u session budget list p
unfolding all_steps all_replies after_all
run_theorem u session budget list p c bytes z =
    let xs = steps session budget (whole_places list) in
    let g = calls_theorem u (a_run session budget list ∷ []) p c (bytes, tt) (rw (append-nil xs) (omega (arith, ap (λ (d : Counts). d.answered) z, few_steps session budget (whole_places list)))) in
    from_zero z (rw (append-nil xs, append-nil) at g)
