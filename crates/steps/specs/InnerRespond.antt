-- Step 7: what its code reads and writes, and what it does once the request has left.
-- Assumes nothing.
use Rattle.std.specs.Prelude.{◌≡◌, Bool, true, cond, not, ◌&&◌, List, ℕ, zero, suc, ◌+◌, ◌*◌, ◌≤◌, T, ltb, eqb, get_or}
use Rattle.store.specs.declared.Reply.{Reply}
use Rattle.requests.specs.declared.Request.{Request}
use Rattle.requests.specs.Model.{loader}
use Rattle.requests.specs.Region.{fields_hold}
use Rattle.players.specs.Replies.{committed, rejected}
use Rattle.players.specs.Rules.{State, Result, removed}
use Rattle.players.specs.Table.{epochs_at, owners_at, table_of}
use Rattle.steps.specs.InnerWords.{live_guard, caching}

-- what is done to the table of a state that request r has left, where f is the rule of the state that still had it
pub record Responds (f : State → Request → Result) (r : Request) (t : List ℕ) (x : Reply) (t' : List ℕ) : Type 0 where
  pub responded : (s : State) → T (fields_hold r) → r.player ≤ loader → t ≡ table_of (removed s r) → (x ≡ (f s r).reply) × (t' ≡ table_of (f s r).state)

-- the reply to a write
unfoldable pub write_reply : Request → Reply
write_reply r = cond (eqb r.first 1) (committed r.serial r.value) (rejected r.serial)

-- player p owns each of k entries from entry e on, with an epoch below n
unfoldable pub owning : ℕ → ℕ → ℕ → ℕ → List ℕ → Bool
owning p n e zero t = true
owning p n e (suc k) t = (eqb (get_or t (owners_at + e) 0) p && ltb (get_or t (epochs_at + e) 0) n) && owning p n (suc e) k t

-- a value read or written under guard g may be cached for the entry
abbrev pub cacheable : ℕ → ℕ → ℕ → Bool → List ℕ → Bool
cacheable p e g overlapped t = not (eqb g 0) && (not overlapped && eqb (live_guard t p e) g)

-- it is cached if it may be
unfoldable pub remembering : ℕ → ℕ → ℕ → Bool → ℕ → ℕ → List ℕ → List ℕ
remembering p e g overlapped version value t = cond (cacheable p e g overlapped t) (caching (p * 256 + e) g version value t) t
