-- The first read from memory: what is supposed, the six steps and the next one, what others may do between them, and the promise. Quoted words are document 02's, §6.
-- Assumes nothing.
use Rattle.std.specs.Prelude.{◌≡◌, Bool, true, false, not, ◌&&◌, ◌||◌, List, [], ◌∷◌, ◌++◌, ℕ, leb, ltb, eqb}
use Rattle.store.specs.Model.{serials, within, bad_range, one_tablet}
use Rattle.store.specs.declared.Range.{Range}
use Rattle.requests.specs.Model.{any, by, serial_is}
use Rattle.players.specs.declared.Step.{Step}
use Rattle.players.specs.declared.Step.TheVariants.{Assign, Release, RequestGuard, Read, Write, Deliver, Respond, Abandon, Lose, Split, Merge, RestartTablet, RestartPlayer, FindInterval, Load}
use Rattle.players.specs.Replies.{issued, done, granted, store_read, cache_read, first_refusal}
use Rattle.players.specs.Rules.{State, Result, fresh, players, all_entries, owns, step}
use Rattle.players.specs.Played.{AllFit, state_after}

-- all tests of a list hold
abbrev pub all : List Bool → Bool
all [] = true
all (b ∷ bs) = b && all bs

-- ---- ‘In tables that keep the rules’

-- of those rules this one is used, ‘No serial in a table exceeds the last one issued’: of the epochs of the range, and of the requests
abbrev pub rules_used : State → Range → List Bool
rules_used s g =
    all_entries (λ e. leb (s.owners.epoch e) s.last) g.low g.high
    ∷ not (any (λ r. ltb s.last r.serial) s.requests)
    ∷ []

-- ---- ‘suppose a player owns a range inside one tablet, has no row in flight’

-- the player p, the range g, and the entry e ‘there’ that is read. A request ‘given up’ is in flight still
abbrev pub ready : State → ℕ → Range → ℕ → List Bool
ready s p g e =
    ltb p players
    ∷ not (bad_range g)
    ∷ all_entries (owns s p) g.low g.high
    ∷ one_tablet s.store g.low g.high
    ∷ not (any (by p) s.requests)
    ∷ within g.low g.high e
    ∷ []

-- ---- ‘others may do anything but’

-- the two ranges share an entry
abbrev pub share_entry : Range → Range → Bool
share_entry g h = ltb g.low h.high && ltb h.low g.high

-- ‘its rows’: the serial is that of a request of the player in flight
abbrev pub own_request : State → ℕ → ℕ → Bool
own_request s p n = any (λ r. by p r && serial_is n r) s.requests

-- ‘assign or release entries of the range, put a border inside it, restart this player, or take steps on its rows’; and a step 3, 4 or 5 of the player is none of
-- the others', as it ‘takes just six steps’
abbrev pub disturbs : State → ℕ → Range → Step → Bool
disturbs s p g (Assign q h) = share_entry g h
disturbs s p g (Release h) = share_entry g h
disturbs s p g (RequestGuard q h) = eqb q p
disturbs s p g (Read q e) = eqb q p
disturbs s p g (Write q e v) = eqb q p
disturbs s p g (Deliver n) = own_request s p n
disturbs s p g (Respond n) = own_request s p n
disturbs s p g (Abandon n) = own_request s p n
disturbs s p g (Lose n) = own_request s p n
disturbs s p g (Split e) = ltb g.low e && ltb e g.high
disturbs s p g (Merge e) = false
disturbs s p g (RestartTablet e) = false
disturbs s p g (RestartPlayer q) = eqb q p
disturbs s p g (FindInterval e) = false
disturbs s p g (Load e v) = false

-- a step that is refused alters nothing, whatever it asks for
abbrev pub allowed : State → ℕ → Range → Step → Bool
allowed s p g x = leb first_refusal (step s x).reply.code || not (disturbs s p g x)

-- each of a list, in the state that the last one left
abbrev pub all_allowed : State → ℕ → Range → List Step → Bool
all_allowed s p g [] = true
all_allowed s p g (x ∷ xs) = allowed s p g x && all_allowed (step s x).state p g xs

-- what others do ‘Between these steps, and up to its next step’
pub record Others : Type 0 where
  pub before_delivery : List Step
  pub before_answer : List Step
  pub before_read : List Step
  pub before_read_delivery : List Step
  pub before_read_answer : List Step
  pub before_next : List Step

module _ (s : State) (p : ℕ) (g : Range) (e : ℕ) (o : Others) where
  -- ---- ‘and takes just six steps’, from the state s

  -- ‘the guard asked for’: the reply has the request's serial
  abbrev pub requested : Result
  requested = step s (RequestGuard p g)

  abbrev pub guard_serial : ℕ
  guard_serial = requested.reply.a

  -- ‘arrived and answered’
  abbrev pub delivered : Result
  delivered = step (state_after requested.state o.before_delivery) (Deliver guard_serial)

  abbrev pub answered : Result
  answered = step (state_after delivered.state o.before_answer) (Respond guard_serial)

  -- ‘then an entry there read, arrived and answered’
  abbrev pub at_read : State
  at_read = state_after answered.state o.before_read

  abbrev pub read : Result
  read = step at_read (Read p e)

  abbrev pub read_serial : ℕ
  read_serial = read.reply.a

  abbrev pub read_delivered : Result
  read_delivered = step (state_after read.state o.before_read_delivery) (Deliver read_serial)

  abbrev pub read_answered : Result
  read_answered = step (state_after read_delivered.state o.before_read_answer) (Respond read_serial)

  -- ‘the player's next step, if a read of that entry’
  abbrev pub at_next : State
  at_next = state_after read_answered.state o.before_next

  abbrev pub next : Result
  next = step at_next (Read p e)

  -- ---- ‘Between these steps, and up to its next step’

  abbrev pub spared : List Bool
  spared =
      all_allowed requested.state p g o.before_delivery
      ∷ all_allowed delivered.state p g o.before_answer
      ∷ all_allowed answered.state p g o.before_read
      ∷ all_allowed read.state p g o.before_read_delivery
      ∷ all_allowed read_delivered.state p g o.before_read_answer
      ∷ all_allowed read_answered.state p g o.before_next
      ∷ []

  -- ---- ‘A serial must be left at the asking and at the first read’

  -- serials only grow (proofs/Serials: `all_grow`), so where one is left at the first read, one was left at the asking
  abbrev pub serial_left : Bool
  serial_left = ltb at_read.last serials

  -- ---- the promise

  -- all that is supposed beside the rules of the tables
  abbrev pub supposed : List Bool
  supposed = ready s p g e ++ (spared ++ (serial_left ∷ []))

  -- ‘Each of the six is then accepted, and the player's next step, if a read of that entry, comes from memory’: with the numbers that the answer gave
  pub record FromMemory : Type 0 where
    pub requesting : requested.reply ≡ issued guard_serial
    pub delivering : delivered.reply ≡ done
    pub answering : answered.reply ≡ granted guard_serial
    pub reading : read.reply ≡ issued read_serial
    pub read_delivering : read_delivered.reply ≡ done
    pub read_answering : read_answered.reply ≡ store_read read_answered.reply.a read_answered.reply.b
    pub from_memory : next.reply ≡ cache_read read_answered.reply.a read_answered.reply.b

  abbrev pub Promise : Type 0
  Promise = all (rules_used s g) ≡ true → all supposed ≡ true → FromMemory

-- ---- from fresh tables on

-- the numbers are what the store holds at that step, after any steps `before` (demand 3: ‘A read served from memory gave what the store held at that step’). Of other
-- tables that keep the rules that is not said
abbrev pub FreshPromise : List Step → ℕ → Range → ℕ → Others → Type 0
FreshPromise before p g e o =
    let s = state_after fresh before in
    let t = (at_next s p g e o).store in
    AllFit before → all (supposed s p g e o) ≡ true → (next s p g e o).reply ≡ cache_read (t.version e) (t.value e)
