-- The read counters beside the replies: to whom a reply goes, how many replies 2 and 3 a list of steps gets, and the claim that the counters are just these
-- numbers. The counters themselves are brought up to date by the rules (crate players, Rules: `counting`). Quoted words are document 02's, §7.
-- Assumes nothing.
use Rattle.std.specs.Prelude.{◌≡◌, Bool, cond, ◌&&◌, ◌||◌, List, [], ◌∷◌, ℕ, ◌+◌, ◌≤◌, eqb, length, get_or}
use Rattle.store.specs.declared.Reply.{Reply}
use Rattle.requests.specs.Model.{serial_is, find}
use Rattle.counters.specs.declared.Counts.{Counts}
use Rattle.counters.specs.Model.{most, none, one_if}
use Rattle.players.specs.declared.Step.{Step}
use Rattle.players.specs.Kinds.{kind, kind_and_fields}
use Rattle.players.specs.Rules.{State, nobody, with_counters, step, replies}
use Rattle.players.specs.Played.{state_after}

-- ---- ‘to that player’

-- the player of the request in flight with this serial
abbrev pub player_of : State → ℕ → ℕ
player_of s n = find (serial_is n) s.requests nobody (λ r. r.player)

-- a read (kind 4) is its player's, an answer (kind 7) that of the player whose request it is; no other step answers a read
abbrev pub reader : State → Step → ℕ
reader s x =
    let first_field = get_or (kind_and_fields x) 1 0 in
    cond (eqb (kind x) 4) first_field (cond (eqb (kind x) 7) (player_of s first_field) nobody)

-- ---- ‘its replies 2 and 3 to that player’

-- a reply 2 or 3
abbrev pub answers_read : Reply → Bool
answers_read r = eqb r.code 2 || eqb r.code 3

-- a reply 2
abbrev pub from_memory : Reply → Bool
from_memory r = eqb r.code 2

-- how many of the replies rs to the steps xs, taken from state s on, pass a test and go to player p
abbrev pub replies_to : (Reply → Bool) → ℕ → State → List Step → List Reply → ℕ
replies_to f p s [] rs = 0
replies_to f p s (x ∷ xs) [] = 0
replies_to f p s (x ∷ xs) (r ∷ rs) = one_if (f r && eqb p (reader s x)) + replies_to f p (step s x).state xs rs

-- ---- the claim

-- the counts c became c', by these steps and replies
pub record Grew (p : ℕ) (s : State) (xs : List Step) (rs : List Reply) (c c' : Counts) : Type 0 where
  pub answered : c'.answered ≡ c.answered + replies_to answers_read p s xs rs
  pub hits : c'.hits ≡ c.hits + replies_to from_memory p s xs rs

-- ‘begun with zero counts, answered reads equals its replies 2 and 3 to that player, and reads from memory its replies 2’
pub record Counted (p : ℕ) (s : State) (xs : List Step) (rs : List Reply) (c : Counts) : Type 0 where
  pub answered : c.answered ≡ replies_to answers_read p s xs rs
  pub hits : c.hits ≡ replies_to from_memory p s xs rs

-- of the steps xs by the rules, from whatever counts, where these and the number of steps are together not ‘above 4,000,000,000’
abbrev pub StepsGrow : ℕ → State → List Step → Type 0
StepsGrow p s xs = (s.counters p).answered + length xs ≤ most → Grew p s xs (replies s xs) (s.counters p) ((state_after s xs).counters p)

-- from zero counts
abbrev pub StepsCounted : ℕ → State → List Step → Type 0
StepsCounted p s xs = s.counters p ≡ none → length xs ≤ most → Counted p s xs (replies s xs) ((state_after s xs).counters p)

-- ---- nothing else depends on the counters

-- a state but for its counters
abbrev pub without_counts : State → State
without_counts s = with_counters s (λ p. none)

-- with other counts cs, the steps xs get the same replies, and leave the same but for the counters
pub record Unseen (s : State) (cs : ℕ → Counts) (xs : List Step) : Type 0 where
  pub replied : replies (with_counters s cs) xs ≡ replies s xs
  pub left : without_counts (state_after (with_counters s cs) xs) ≡ without_counts (state_after s xs)
