-- What the tests of `check` come to, case by case: small tests on numbers, and what one turn of a loop does to the rest of a list.
-- Assumes nothing.
use mathlib.Core.Path.{◌≡◌, refl, sym, ap, ◌∙◌}
use mathlib.Core.Logic.{⊎_elim}
use mathlib.Core.Bool.{Bool, true, false, cond, ◌&&◌, and_assoc, and-true}
use mathlib.Core.List.{List, ◌∷◌}
use Prim.Native.Nat.{ℕ, ◌+◌, ◌≤◌, ◌<◌}
use native.Mathlib.Omega.{arith}
use lib.Dec.{leb, eqb}
use lib.Bits.{bit_or}
use lib.ListN.{length, get_or, take, drop, drop_of_length-le, length-drop}
use lib.Seq.{get_or-take, get_or-drop, length-take-le}
use borrow.Author.Tests.{eq-eqb, le-leb, lt-leb, lt-ltb, eqb-true}
use Rattle.store.specs.Model.{fresh as fresh_store}
use Rattle.store.specs.Table.{above, at_most, table_of as store_table, valid as valid_store}
use Rattle.store.specs.Calls.{reply, checked as checked_store, done as stored_as, Done as StoreDone, made_fresh as store_made}
use Rattle.std.specs.Prelude.{Result as Outcome, Ok, Err}
use Rattle.store.specs.Answers.{nothing, as_reply}
use Rattle.store.specs.Refusals.{number_of}
use Rattle.store.specs.declared.Reply.{Reply}
use Rattle.store.specs.declared.refusal.Refusal.{Refusal}
use Rattle.store.proofs.Refusals.{number_of-positive}
use Rattle.store.proofs.Bits.{none_gathered, above_none}
use Rattle.store.proofs.Turns.{drop_next}
use Rattle.requests.specs.Region.{valid as valid_requests}
use Rattle.counters.specs.Region.{valid as valid_counters}
use Rattle.requests.proofs.Basics.{decide, both_left, both_right, cond_elim}
use Rattle.players.specs.Rules.{fresh}
use Rattle.players.specs.Calls.{left, whole, checked, made_fresh}
use Rattle.players.specs.Regions.{region}
use Rattle.players.specs.Table.{players_words, cell_count, guards_at, versions_at, values_at, cell, StandsFor, table_of, valid_players, valid, cached_holds, cached_at, cached_all}
use Rattle.players.proofs.RunningNumbers.{stands_number, stands_entry}

-- ---- cached values

-- what stands beside a guard of 0 is 0
unguarded_none : (g v x : ℕ) → eqb (cond (eqb g 0) (bit_or v x) 0) 0 ≡ cond (eqb g 0) (eqb v 0 && eqb x 0) true
unguarded_none g v x = cond_elim (λ (y : ℕ). eqb y 0 ≡ cond (eqb g 0) (eqb v 0 && eqb x 0) true) (eqb g 0) (bit_or v x) 0 (λ b. rw b (none_gathered v x)) (λ b. rw b)

-- a and b are the bits that tell of the guard and the version, u those that tell of what stands beside no guard
pub flaw_is : (n g v x a b u : ℕ) → a ≡ above n g → b ≡ above n v → u ≡ cond (eqb g 0) (bit_or v x) 0 → eqb (bit_or (bit_or a b) u) 0 ≡ cached_holds n g v x
unfolding cached_holds
flaw_is n g v x a b u e f h =
    none_gathered (bit_or a b) u
    ∙ rw (none_gathered a b, e, f, h, above_none n g, above_none n v, unguarded_none g v x)
    (and_assoc (leb g n) (leb v n) (cond (eqb g 0) (eqb v 0 && eqb x 0) true))

-- the 2,048 words from b on
abbrev column : List ℕ → ℕ → List ℕ
column t b = take cell_count (drop b t)

-- the test of the cached values from the running number i on
abbrev pub rest_holds : List ℕ → ℕ → Bool
rest_holds t i = cached_all (get_or t 0 0) (drop i (column t guards_at)) (drop i (column t versions_at)) (drop i (column t values_at))

module _ (t : List ℕ) (l : length t ≡ players_words) (i : ℕ) where
  length-column : (b : ℕ) → b + cell_count ≤ players_words → length (column t b) ≡ cell_count
  length-column b h = length-take-le cell_count (drop b t) (rw length-drop (omega arith))

  module _ (h : i < cell_count) where
    column_at : (b : ℕ) → get_or (column t b) i 0 ≡ get_or t (b + i) 0
    column_at b = get_or-take cell_count (drop b t) i 0 h ∙ get_or-drop b t i 0

    column_next : (b : ℕ) → b + cell_count ≤ players_words → drop i (column t b) ≡ get_or t (b + i) 0 ∷ drop (i + 1) (column t b)
    column_next b k = drop_next (column t b) i (rw (length-column b k) h) ∙ rw (column_at b)

    module _ (p e : ℕ) (s : StandsFor i p e) where
      cell_is : (b : ℕ) → cell (region b cell_count t) p e ≡ get_or t (b + i) 0
      unfolding cell region
      cell_is b = rw (lt-ltb e 256 (stands_entry i p e s), sym (stands_number i p e s)) (column_at b)

      -- the cell with a running number is that of the pair for which it stands
      pub cached_at_is : cached_at t p e ≡ cached_holds (get_or t 0 0) (get_or t (guards_at + i) 0) (get_or t (versions_at + i) 0) (get_or t (values_at + i) 0)
      unfolding cached_at
      cached_at_is = rw (cell_is guards_at, cell_is versions_at, cell_is values_at)

      -- a are the bits that tell of the cells before, and b those that tell of this one
      pub values_turn : (a b : ℕ) → eqb b 0 ≡ cached_at t p e → (eqb a 0 && rest_holds t i) ≡ (eqb (bit_or a b) 0 && rest_holds t (i + 1))
      unfolding cached_all
      values_turn a b f =
          rw (none_gathered a b, f, cached_at_is, column_next guards_at (omega arith), column_next versions_at (omega arith), column_next values_at (omega arith))
          (sym (and_assoc (eqb a 0) _ (rest_holds t (i + 1))))

  pub values_end : (b : Bool) → cell_count ≤ i → (b && rest_holds t i) ≡ b
  unfolding cached_all
  values_end b h =
      let k : length (column t guards_at) ≤ i = rw (length-column guards_at (omega arith)) h in
      rw (drop_of_length-le (column t guards_at) k, and-true b)

-- ---- the table

module _ (t : List ℕ) where
  table_is :
      valid_players t
      ≡ (leb (get_or t 0 0) 4000000
      && (at_most 8 (take 256 (drop 1 t))
      && (at_most (get_or t 0 0) (take 256 (drop 257 t))
      && (at_most (get_or t 0 0) (take 2048 (drop 513 t))
      && (cached_all (get_or t 0 0) (take 2048 (drop 2561 t)) (take 2048 (drop 4609 t)) (take 2048 (drop 6657 t))
      && (valid_requests (get_or t 0 0) (take 768 (drop 8705 t))
      && valid_counters (take 16 (drop 9473 t))))))))
  unfolding valid_players region
  table_is = refl

  pub table_last : 4000000 < get_or t 0 0 → false ≡ valid_players t
  table_last h = rw (table_is, lt-leb (get_or t 0 0) 4000000 h)

  module _ (h : get_or t 0 0 ≤ 4000000) where
    pub table_owners : at_most 8 (take 256 (drop 1 t)) ≡ false → false ≡ valid_players t
    table_owners o = rw (table_is, le-leb (get_or t 0 0) 4000000 h, o)

    module _ (o : at_most 8 (take 256 (drop 1 t)) ≡ true) where
      pub table_epochs : at_most (get_or t 0 0) (take 256 (drop 257 t)) ≡ false → false ≡ valid_players t
      table_epochs e = rw (table_is, le-leb (get_or t 0 0) 4000000 h, o, e)

      module _ (e : at_most (get_or t 0 0) (take 256 (drop 257 t)) ≡ true) where
        pub table_held : at_most (get_or t 0 0) (take 2048 (drop 513 t)) ≡ false → false ≡ valid_players t
        table_held g = rw (table_is, le-leb (get_or t 0 0) 4000000 h, o, e, g)

        module _ (g : at_most (get_or t 0 0) (take 2048 (drop 513 t)) ≡ true) where
          abbrev values : Bool
          values = cached_all (get_or t 0 0) (take 2048 (drop 2561 t)) (take 2048 (drop 4609 t)) (take 2048 (drop 6657 t))

          pub table_values : values ≡ false → false ≡ valid_players t
          table_values v = rw (table_is, le-leb (get_or t 0 0) 4000000 h, o, e, g, v)

          module _ (v : values ≡ true) where
            pub table_requests : valid_requests (get_or t 0 0) (take 768 (drop 8705 t)) ≡ false → false ≡ valid_players t
            table_requests r = rw (table_is, le-leb (get_or t 0 0) 4000000 h, o, e, g, v, r)

            pub table_counters : valid_requests (get_or t 0 0) (take 768 (drop 8705 t)) ≡ true → (b : Bool) → b ≡ valid_counters (take 16 (drop 9473 t)) → b ≡ valid_players t
            table_counters r b c = rw (table_is, le-leb (get_or t 0 0) 4000000 h, o, e, g, v, r) c

-- ---- both tables

module _ (st t : List ℕ) (w : whole st t ≡ true) where
  pub store_long : length st ≡ 1280
  store_long = eqb-true (length st) 1280 (both_left (eqb (length st) 1280) (eqb (length t) players_words) w)

  pub players_long : length t ≡ players_words
  players_long = eqb-true (length t) players_words (both_right (eqb (length st) 1280) (eqb (length t) players_words) w)

abbrev store_test : Bool → Bool → Reply
store_test a b = cond a (cond b (reply 0 0 0) (reply 22 0 0)) (reply 21 0 0)

not_stored : (a b c : Bool) → ((store_test a b).code ≡ 0 → ⊥) → store_test a b ≡ store_test a (b && c)
not_stored true true c h = absurd (h refl)
not_stored true false c h = refl
not_stored false b c h = refl

stored : (a b c : Bool) → (store_test a b).code ≡ 0 → cond c (reply 0 0 0) (reply 22 0 0) ≡ store_test a (b && c)
stored true true c h = refl
stored true false c h = absurd (omega (arith, h))
stored false b c h = absurd (omega (arith, h))

module _ (st t : List ℕ) (l : length t ≡ players_words) (r : Outcome Unit Refusal) where
  checked_is : checked st t ≡ store_test (eqb (length st) 1280) (valid_store (get_or t 0 0) st && valid_players t)
  unfolding valid
  checked_is = rw (eq-eqb (length t) players_words l, and-true (eqb (length st) 1280))

  -- the store's test, and then the players'
  module _ (e : as_reply nothing r ≡ checked_store (get_or t 0 0) st) where
    pub check_store : (x : Refusal) → r ≡ Err x → reply (number_of x) 0 0 ≡ checked st t
    check_store x k =
        ap (λ (q : Outcome Unit Refusal). as_reply nothing q) (sym k)
        ∙ e
        ∙ not_stored (eqb (length st) 1280) (valid_store (get_or t 0 0) st) (valid_players t)
        (λ z. number_of-positive x (sym (ap (λ (q : Outcome Unit Refusal). (as_reply nothing q).code) k) ∙ ap (λ (y : Reply). y.code) e ∙ z))
        ∙ sym checked_is

    pub check_players : (u : Unit) → r ≡ Ok u → (b : Bool) → b ≡ valid_players t → cond b (reply 0 0 0) (reply 22 0 0) ≡ checked st t
    check_players u k b f =
        ap (λ (c : Bool). cond c (reply 0 0 0) (reply 22 0 0)) f
        ∙ stored (eqb (length st) 1280) (valid_store (get_or t 0 0) st) (valid_players t)
        (sym (ap (λ (y : Reply). y.code) e) ∙ ap (λ (q : Outcome Unit Refusal). (as_reply nothing q).code) k)
        ∙ sym checked_is

  -- the store made fresh, and the players
  module _ (st' : List ℕ) (e : stored_as (as_reply nothing r) st' ≡ store_made st) where
    pub fresh_refused : (x : Refusal) → r ≡ Err x → left (reply (number_of x) 0 0) st' t ≡ made_fresh st t
    fresh_refused x k =
        let c : (as_reply nothing r).code ≡ number_of x = ap (λ (q : Outcome Unit Refusal). (as_reply nothing q).code) k in
        let y : reply (number_of x) 0 0 ≡ as_reply nothing r = ap (λ (q : Outcome Unit Refusal). as_reply nothing q) (sym k) in
        ⊎_elim
        (λ b.
        let d : stored_as (as_reply nothing r) st' ≡ stored_as (reply 0 0 0) (store_table fresh_store) = e ∙ rw b in
        absurd (number_of-positive x (sym c ∙ ap (λ (d : StoreDone). d.reply.code) d)))
        (λ b.
        let d : stored_as (as_reply nothing r) st' ≡ stored_as (reply 21 0 0) st = e ∙ rw b in
        let w : whole st t ≡ false = ap (λ (z : Bool). z && eqb (length t) players_words) b in
        rw (y ∙ ap (λ (d : StoreDone). d.reply) d, ap (λ (d : StoreDone). d.table) d, w))
        (decide (eqb (length st) 1280))

    pub fresh_both : (u : Unit) → r ≡ Ok u → (t' : List ℕ) → t' ≡ table_of fresh → left (reply 0 0 0) st' t' ≡ made_fresh st t
    fresh_both u k t' f =
        let c : (as_reply nothing r).code ≡ 0 = ap (λ (q : Outcome Unit Refusal). (as_reply nothing q).code) k in
        ⊎_elim
        (λ b.
        let d : stored_as (as_reply nothing r) st' ≡ stored_as (reply 0 0 0) (store_table fresh_store) = e ∙ rw b in
        let w : whole st t ≡ true = ap (λ (z : Bool). z && eqb (length t) players_words) b ∙ eq-eqb (length t) players_words l in
        rw (ap (λ (d : StoreDone). d.table) d, f, w))
        (λ b.
        let d : stored_as (as_reply nothing r) st' ≡ stored_as (reply 21 0 0) st = e ∙ rw b in
        let z : 0 ≡ 21 = sym c ∙ ap (λ (d : StoreDone). d.reply.code) d in
        absurd (omega (arith, z)))
        (decide (eqb (length st) 1280))
