-- Serials only grow, whatever the state and the steps.
-- Assumes nothing.
use mathlib.Core.List.{List, [], ◌∷◌}
use Prim.Native.Nat.{◌≤◌}
use native.Mathlib.Omega.{arith}
use Rattle.players.specs.declared.Step.{Step}
use Rattle.players.specs.Rules.{State, step}
use Rattle.players.specs.Played.{state_after}
use Rattle.players.proofs.StepCases.{ByCase, step_elim}

module _ (s : State) where
  grow_cases : ByCase (λ x r. s.last ≤ r.state.last) s
  grow_cases =
      record {
        refused = λ x n _. omega arith;
        assigned = λ p g _ _ _. omega arith;
        released = λ g _ _. omega arith;
        requested = λ p g _ _ _ _. omega arith;
        reads_cache = λ p e _ _. omega arith;
        reads_store = λ p e _ _. omega arith;
        writes = λ p e v _ _ _. omega arith;
        set = λ r n _ _ _. omega arith;
        unset = λ r n _ _ _. omega arith;
        fetched = λ r n _ _. omega arith;
        takes_effect = λ r n _ _ _ _. omega arith;
        rejects = λ r n _ _ _ _. omega arith;
        granted = λ r n _ _ _ _. omega arith;
        layout = λ r n _. omega arith;
        not_held = λ r n _. omega arith;
        read_cached = λ r n _ _ _. omega arith;
        read_not_cached = λ r n _ _. omega arith;
        write_cached = λ r n _ _ _ _ _. omega arith;
        write_not_cached = λ r n _ _ _ _. omega arith;
        write_rejected = λ r n _ _ _ _ _. omega arith;
        load_rejected = λ r n _ _ _ _ _. omega arith;
        write_dropped = λ r n _ _. omega arith;
        request_dropped = λ r n _. omega arith;
        write_marked = λ r n _ _ _ _. omega arith;
        request_marked = λ r n _ _ _. omega arith;
        loses = λ r n _. omega arith;
        splits = λ e _. omega arith;
        merges = λ e _. omega arith;
        restarts_tablet = λ e. omega arith;
        restarts_player = λ p _. omega arith;
        finds = λ e. omega arith;
        loads = λ e v _. omega arith;
      }

  pub last_grows : (x : Step) → s.last ≤ (step s x).state.last
  last_grows = step_elim (λ x r. s.last ≤ r.state.last) s grow_cases

pub all_grow : (s : State) (xs : List Step) → s.last ≤ (state_after s xs).last
unfolding state_after
all_grow s [] = omega arith
all_grow s (x ∷ xs) =
    let a = last_grows s x in
    let b = all_grow (step s x).state xs in
    omega arith
