-- What the steps on the store's table do, and deliver, which is a step on both tables.
-- Assumes nothing.
use Rattle.std.specs.Prelude.{◌≡◌, Bool, cond, List, ℕ, T, length, take, drop}
use borrow.Rule.Slice.PartMut.{put_mid}
use Rattle.store.specs.declared.Reply.{Reply}
use Rattle.store.specs.Model.{Store}
use Rattle.store.specs.Calls.{Result as StoreResult, install, read, commit}
use Rattle.requests.specs.declared.Request.{Request}
use Rattle.requests.specs.Model.{is_guard_request, is_read}
use Rattle.requests.specs.Calls.{with_delivered, without}
use Rattle.players.specs.Rules.{State, Result}
use Rattle.players.specs.Table.{requests_at, players_words, state_of, valid}
use Rattle.players.specs.Calls.{left, encoded}
use Rattle.requests.specs.Region.{region_words}

-- a step that leaves the players' table alone: what it does to a store's table that keeps the rules beside some players'
pub record Shifts (f : State → Result) (st : List ℕ) (r : Reply) (st' : List ℕ) : Type 0 where
  pub shifted : (t : List ℕ) → length t ≡ players_words → T (valid st t) → left r st' t ≡ encoded (f (state_of st t))

-- a step on both tables: what it does to tables that keep the rules
pub record Acts (f : State → Result) (st t : List ℕ) (r : Reply) (st' t' : List ℕ) : Type 0 where
  pub acted : T (valid st t) → left r st' t' ≡ encoded (f (state_of st t))

-- ---- 6 deliver

-- what the store does with a request that is delivered: the reply's two numbers are the outcome
unfoldable pub performed : Request → Store → StoreResult
performed r st =
    cond (is_guard_request r) (install (record { low = r.low; high = r.high }) r.serial st)
    (cond (is_read r) (read r.low st) (commit r.low r.value r.serial r.guard st))

-- the request of place k leaves if it is abandoned, else it is delivered with this outcome
unfoldable pub settled_words : ℕ → Bool → ℕ → ℕ → List ℕ → List ℕ
settled_words k abandoned a b t =
    let w = take region_words (drop requests_at t) in
    put_mid requests_at region_words t (cond abandoned (without k w) (with_delivered k a b w))
