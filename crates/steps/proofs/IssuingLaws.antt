-- Steps 3, 4, 5 and 15: what they do to a state, case by case, and what their code does to a table.
-- Assumes nothing.
use mathlib.Core.Path.{◌≡◌, refl, sym, ap, ◌∙◌}
use mathlib.Core.Logic.{⊎_elim}
use mathlib.Core.Bool.{Bool, true, false, cond, not}
use mathlib.Core.List.{List, map}
use Prim.Native.Nat.{ℕ, zero, suc, ◌+◌, ◌-◌, ◌*◌, ◌≤◌, ◌<◌}
use native.Mathlib.Nat.{add-suc, le_of_lt}
use native.Mathlib.Omega.{arith}
use lib.Dec.{leb, eqb}
use lib.ListN.{length, get_or, take, drop, length-map}
use mir.Syntax.{w32}
use mir.Val.{Fits}
use borrow.Author.Rules.{Fits-under}
use borrow.Rule.Slice.PartMut.{put_mid}
use borrow.Author.Tests.{eq-eqb, ne_eqb, le-leb, lt-leb, lt-ltb, not-true, not-false}
use Rattle.store.specs.Model.{bad_range, open_guard}
use Rattle.store.specs.declared.Range.{Range}
use Rattle.store.specs.declared.Reply.{Reply}
use Rattle.requests.specs.declared.Request.{Request}
use Rattle.requests.specs.declared.Scan.{Scan}
use Rattle.requests.specs.Model.{places, loader, requesting, writing, using_entry, new_request, mark_overlapped, any}
use Rattle.requests.specs.Shares.{turned_away, count_in}
use Rattle.requests.specs.Region.{region_of}
use Rattle.requests.specs.Calls.{scanned, Crossing, crossing, crossed}
use Rattle.requests.proofs.Basics.{decide}
use Rattle.requests.proofs.CrossLaws.{none_using}
use Rattle.requests.proofs.Placed.{Requests}
use Rattle.requests.proofs.RegionLaws.{crossed_region}
use Rattle.players.specs.declared.Step.TheVariants.{RequestGuard, Read, Write, Load}
use Rattle.players.specs.Replies.{refusal, issued, cache_read}
use Rattle.players.specs.Rules.{empty, State, Result, with_player, with_requests, every, all_entries, owns, live, cleared as cleared_player, request_guard, cache_hit, read_from_cache, read_from_store, write, load, with_cached, step}
use Rattle.players.specs.Table.{players_words, table_of}
use Rattle.players.proofs.Tables.{Ok, few_requests}
use Rattle.steps.specs.InnerWords.{Moves, live_guard, hit, all_are, added, counted_table, crossed_table, caching, cleared}
use Rattle.steps.proofs.StateLaws.{part_of, owner_word, version_word, value_word, live_state, hit_state, requests_put, added_state, counted_state, cached_put, cleared_put}
use Rattle.steps.proofs.MoveLaws.{moves, refused, last_is, used_is, hit_is, full_is, room_is}

-- ---- a serial is needed

-- a serial is left, or none
module _ {t : List ℕ} {s : State} (o : Ok s) (y : t ≡ table_of s) where
  spent_is : 4000000 ≤ get_or t 0 0 → leb 4000000 s.last ≡ true
  spent_is h = let n = last_is o y in le-leb 4000000 s.last (omega arith)

  left_is : get_or t 0 0 < 4000000 → leb 4000000 s.last ≡ false
  left_is h = let n = last_is o y in lt-leb 4000000 s.last (omega arith)

-- the next serial fits its word
pub next_fits : (n : ℕ) → n < 4000000 → Fits w32 (n + 1)
next_fits n h = Fits-under w32 (n + 1) 4000001 (omega arith) tt

-- a whole table has the word of the last serial
pub has_last : {n : ℕ} → n ≡ players_words → 0 < n
has_last h = omega arith

-- and that of its last request
pub has_requests : {n : ℕ} → n ≡ players_words → 9473 ≤ n
has_requests h = omega arith

-- ---- 4 read

module _ (t : List ℕ) (l : length t ≡ players_words) (p e : ℕ) where
  abbrev f : State → Result
  f s = step s (Read p e)

  pub read_player : 7 < p → (r : Reply) → r ≡ refusal 28 → Moves f t r t
  read_player h r er = refused f t l 28 r er (λ s _ _. rw (le-leb 8 p h))

  module _ (hp : p < 8) (he : e < 256) where
    cached_is : (s : State) → t ≡ table_of s → (b : Bool) → b ≡ hit t p e → cache_hit s p e ≡ b
    cached_is s y b eb = sym (eb ∙ ap (λ (u : List ℕ). hit u p e) y ∙ hit_state s p e hp he)

    pub read_hit : true ≡ hit t p e → (t' : List ℕ) → t' ≡ counted_table p 2 t → Moves f t (cache_read (get_or t (4609 + (p * 256 + e)) 0) (get_or t (6657 + (p * 256 + e)) 0)) t'
    read_hit b t' et =
        moves f t l _ t'
        (λ s o y.
        let d : f s ≡ read_from_cache s p e = rw (lt-leb 8 p hp, cached_is s y true b) in
        rw d (
          rw (ap (λ (u : List ℕ). get_or u (4609 + (p * 256 + e)) 0) y ∙ version_word s p e hp he, ap (λ (u : List ℕ). get_or u (6657 + (p * 256 + e)) 0) y ∙ value_word s p e hp he),
          et ∙ ap (counted_table p 2) y ∙ counted_state s p 2 hp,
        ))

    module _ (b : false ≡ hit t p e) {x : Scan} (ex : x ≡ scanned (writing p e) (take 768 (drop 8705 t))) {full : Bool} (ef : full ≡ turned_away (count_in x.counts) p) where
      pub read_full : full ≡ true → (r : Reply) → r ≡ refusal 38 → Moves f t r t
      read_full h r er = refused f t l 38 r er (λ s o y. rw (full_is o y (writing p e) ex p ef true h, lt-leb 8 p hp, cached_is s y false b))

      module _ (h : full ≡ false) where
        pub read_spent : 4000000 ≤ get_or t 0 0 → (r : Reply) → r ≡ refusal 34 → Moves f t r t
        read_spent k r er = refused f t l 34 r er (λ s o y. rw (full_is o y (writing p e) ex p ef false h, lt-leb 8 p hp, cached_is s y false b, spent_is o y k))

        pub read_done : get_or t 0 0 < 4000000 → (g : ℕ) → g ≡ live_guard t p e → (q : Request) → q ≡ new_request (get_or t 0 0 + 1) p 4 e 0 0 g x.hit → (t' : List ℕ) → t' ≡ added x.used q t
            → (r : Reply) → r ≡ issued (get_or t 0 0 + 1) → Moves f t r t'
        read_done k g eg q eq t' et r er =
            moves f t l r t'
            (λ s o y.
            let m = last_is o y in
            let d : f s ≡ read_from_store s p e = rw (full_is o y (writing p e) ex p ef false h, lt-leb 8 p hp, cached_is s y false b, left_is o y k) in
            let g_is : g ≡ cond (live s p e) ((s.player p).held e) 0 = eg ∙ ap (λ (u : List ℕ). live_guard u p e) y ∙ live_state s p e hp he in
            let a = new_request (s.last + 1) p 4 e 0 0 (cond (live s p e) ((s.player p).held e) 0) (any (writing p e) s.requests) in
            let q_is : q ≡ a = eq ∙ rw (m, g_is, ← hit_is o y (writing p e) ex x.hit refl) in
            rw d (
              er ∙ ap (λ (i : ℕ). issued (i + 1)) m,
              et ∙ rw (y, q_is) (added_state s x.used a (used_is o y (writing p e) ex) (room_is o y (writing p e) ex p ef h (omega arith)) refl),
            ))

-- ---- 5 write

-- the marks of a write, where `b` tells whether there are requests to mark
module _ (b : Bool) (p e : ℕ) (t : List ℕ) where
  pub cross_none : not b ≡ true → crossing false t ≡ crossed_table b p e t
  unfolding crossed_table
  cross_none h = rw (not-true b h)

  pub cross_some : not b ≡ false → (r : Bool) (c : List ℕ) → crossing r c ≡ crossed p e (take 768 (drop 8705 t)) → crossing r (put_mid 8705 768 t c) ≡ crossed_table b p e t
  unfolding crossed_table
  cross_some h r c ec = rw (not-false b h, ← ec)

crossed_state : (s : State) (n : ℕ) → length s.requests ≤ places → Requests n 0 s.requests → (p e : ℕ) (b : Bool) → any (using_entry p e) s.requests ≡ b
    → crossed_table b p e (table_of s) ≡ crossing (any (writing p e) s.requests) (table_of (with_requests s (map (λ r. cond (using_entry p e r) (mark_overlapped r) r) s.requests)))
unfolding crossed_table
crossed_state s n f q p e true h =
    let x : crossed p e (take 768 (drop 8705 (table_of s))) ≡ crossing (any (writing p e) s.requests) (region_of (map (λ r. cond (using_entry p e r) (mark_overlapped r) r) s.requests)) = ap (crossed p e) (part_of s) ∙ crossed_region n s.requests f q p e in
    rw x (ap (crossing (any (writing p e) s.requests)) (requests_put s _ _ refl))
crossed_state s n f q p e false h = let x = none_using p e s.requests h in rw (x.0, x.1)

module _ (s : State) (p e : ℕ) where
  live-zero : 0 ≡ cond (live s p e) ((s.player p).held e) 0 → live s p e ≡ false
  live-zero h =
      ⊎_elim
      (λ y.
      let z : (s.player p).held e ≡ 0 = sym (rw y at h) in
      rw z)
      (λ n. n) (decide (live s p e))

  live_is : (g : ℕ) → g ≡ cond (live s p e) ((s.player p).held e) 0 → (g ≡ 0 → ⊥) → (live s p e ≡ true) × (g ≡ (s.player p).held e)
  live_is g h n = ⊎_elim (λ y. (y, rw y at h)) (λ y. absurd (n (rw y at h))) (decide (live s p e))

module _ (t : List ℕ) (l : length t ≡ players_words) (p e v : ℕ) where
  abbrev w : State → Result
  w s = step s (Write p e v)

  pub write_player : 7 < p → (r : Reply) → r ≡ refusal 28 → Moves w t r t
  write_player h r er = refused w t l 28 r er (λ s _ _. rw (le-leb 8 p h))

  module _ (hp : p < 8) (he : e < 256) where
    owner_is : (s : State) → t ≡ table_of s → get_or t (1 + e) 0 ≡ s.owners.owner e
    owner_is s y = ap (λ (u : List ℕ). get_or u (1 + e) 0) y ∙ owner_word s e he

    pub write_owner : (get_or t (1 + e) 0 ≡ p → ⊥) → (r : Reply) → r ≡ refusal 29 → Moves w t r t
    write_owner n r er = refused w t l 29 r er (λ s o y. rw (lt-leb 8 p hp, ne_eqb (s.owners.owner e) p (λ z. n (owner_is s y ∙ z))))

    module _ (n : get_or t (1 + e) 0 ≡ p) (g : ℕ) (eg : g ≡ live_guard t p e) where
      owned : (s : State) → t ≡ table_of s → eqb (s.owners.owner e) p ≡ true
      owned s y = eq-eqb (s.owners.owner e) p (sym (owner_is s y) ∙ n)

      guard_is : (s : State) → t ≡ table_of s → g ≡ cond (live s p e) ((s.player p).held e) 0
      guard_is s y = eg ∙ ap (λ (u : List ℕ). live_guard u p e) y ∙ live_state s p e hp he

      pub write_dead : g ≡ 0 → (r : Reply) → r ≡ refusal 30 → Moves w t r t
      write_dead z r er = refused w t l 30 r er (λ s o y. rw (lt-leb 8 p hp, live-zero s p e (sym z ∙ guard_is s y), owned s y))

      module _ (nz : g ≡ 0 → ⊥) where
        alive : (s : State) (y : t ≡ table_of s) → (live s p e ≡ true) × (g ≡ (s.player p).held e)
        alive s y = live_is s p e g (guard_is s y) nz

        module _ {x : Scan} (ex : x ≡ scanned (using_entry p e) (take 768 (drop 8705 t))) {full : Bool} (ef : full ≡ turned_away (count_in x.counts) p) where
          pub write_full : full ≡ true → (r : Reply) → r ≡ refusal 38 → Moves w t r t
          write_full h r er = refused w t l 38 r er (λ s o y. rw (full_is o y (using_entry p e) ex p ef true h, lt-leb 8 p hp, (alive s y).0, owned s y))

          module _ (h : full ≡ false) where
            pub write_spent : 4000000 ≤ get_or t 0 0 → (r : Reply) → r ≡ refusal 34 → Moves w t r t
            write_spent k r er = refused w t l 34 r er (λ s o y. rw (full_is o y (using_entry p e) ex p ef false h, lt-leb 8 p hp, (alive s y).0, owned s y, spent_is o y k))

            pub write_done : get_or t 0 0 < 4000000 → (t₁ : List ℕ) → t₁ ≡ caching (p * 256 + e) 0 0 0 t → (c : Bool) (t₂ : List ℕ) → crossing c t₂ ≡ crossed_table x.hit p e t₁
                → (q : Request) → q ≡ new_request (get_or t 0 0 + 1) p 5 e 0 v g c → (t' : List ℕ) → t' ≡ added x.used q t₂ → (r : Reply) → r ≡ issued (get_or t 0 0 + 1) → Moves w t r t'
            write_done k t₁ e₁ c t₂ e₂ q eq t' et r er =
                moves w t l r t'
                (λ s o y.
                let m = last_is o y in
                let rs = s.requests in
                let f : Request → Request = λ i. cond (using_entry p e i) (mark_overlapped i) i in
                let s₁ = with_cached s p e empty in
                let s₂ = with_requests s₁ (map f rs) in
                let y₁ : t₁ ≡ table_of s₁ = e₁ ∙ ap (caching (p * 256 + e) 0 0 0) y ∙ cached_put s p hp e he empty in
                let cr : crossing c t₂ ≡ crossing (any (writing p e) rs) (table_of s₂) = e₂ ∙ ap (crossed_table x.hit p e) y₁ ∙ crossed_state s₁ s.last (few_requests o) o.requests p e x.hit (hit_is o y (using_entry p e) ex x.hit refl) in
                let d : w s ≡ write s p e v = rw (full_is o y (using_entry p e) ex p ef false h, lt-leb 8 p hp, (alive s y).0, owned s y, left_is o y k) in
                let a = new_request (s.last + 1) p 5 e 0 v ((s.player p).held e) (any (writing p e) rs) in
                let q_is : q ≡ a = eq ∙ rw (m, (alive s y).1, ap (λ (z : Crossing). z.hit) cr) in
                let y₂ : t₂ ≡ table_of s₂ = ap (λ (z : Crossing). z.words) cr in
                let i : length (map f rs) ≡ length rs = length-map rs f in
                let b : length (map f rs) < places = rw i (room_is o y (using_entry p e) ex p ef h (omega arith)) in
                rw d
                (er ∙ ap (λ (i : ℕ). issued (i + 1)) m, et ∙ rw (y₂, q_is) (added_state s₂ x.used a (used_is o y (using_entry p e) ex ∙ sym i) b refl)))

-- ---- 15 load

module _ (t : List ℕ) (l : length t ≡ players_words) (e v : ℕ) where
  abbrev d : State → Result
  d s = step s (Load e v)

  module _ {x : Scan} (ex : x ≡ scanned (writing loader e) (take 768 (drop 8705 t))) {full : Bool} (ef : full ≡ turned_away (count_in x.counts) loader) where
    pub load_full : full ≡ true → (r : Reply) → r ≡ refusal 38 → Moves d t r t
    load_full h r er = refused d t l 38 r er (λ s o y. rw (full_is o y (writing loader e) ex loader ef true h))

    module _ (h : full ≡ false) where
      pub load_spent : 4000000 ≤ get_or t 0 0 → (r : Reply) → r ≡ refusal 34 → Moves d t r t
      load_spent k r er = refused d t l 34 r er (λ s o y. rw (full_is o y (writing loader e) ex loader ef false h, spent_is o y k))

      pub load_done : get_or t 0 0 < 4000000 → (q : Request) → q ≡ new_request (get_or t 0 0 + 1) loader 5 e 0 v open_guard false → (t' : List ℕ) → t' ≡ added x.used q t → (r : Reply) → r ≡ issued (get_or t 0 0 + 1) → Moves d t r t'
      load_done k q eq t' et r er =
          moves d t l r t'
          (λ s o y.
          let m = last_is o y in
          let a = new_request (s.last + 1) loader 5 e 0 v open_guard false in
          let q_is : q ≡ a = eq ∙ rw m in
          let done : d s ≡ load s e v = rw (full_is o y (writing loader e) ex loader ef false h, left_is o y k) in
          rw done (
            er ∙ ap (λ (i : ℕ). issued (i + 1)) m,
            et ∙ rw (y, q_is) (added_state s x.used a (used_is o y (writing loader e) ex) (room_is o y (writing loader e) ex loader ef h (omega arith)) refl),
          ))

-- ---- 3 request a guard

owned_words : (s : State) (p lo n : ℕ) → lo + n ≤ 256 → all_are p (1 + lo) n (table_of s) ≡ every lo n (owns s p)
unfolding all_are
owned_words s p lo zero h = refl
owned_words s p lo (suc n) h = rw (owner_word s lo (omega arith), ← add-suc 1 lo, owned_words s p (suc lo) n (omega arith))

module _ (t : List ℕ) (l : length t ≡ players_words) (p : ℕ) (g : Range) where
  abbrev a : State → Result
  a s = step s (RequestGuard p g)

  pub request_player : 7 < p → (r : Reply) → r ≡ refusal 28 → Moves a t r t
  request_player h r er = refused a t l 28 r er (λ s _ _. rw (le-leb 8 p h))

  module _ (hp : p < 8) where
    pub request_bad : bad_range g ≡ true → (r : Reply) → r ≡ refusal 28 → Moves a t r t
    request_bad h r er = refused a t l 28 r er (λ s _ _. rw (lt-leb 8 p hp, h))

    module _ (hl : g.low < g.high) where
      module _ (hh : g.high ≤ 256) where
        owns_is : (s : State) → t ≡ table_of s → (b : Bool) → b ≡ all_are p (1 + g.low) (g.high - g.low) t → all_entries (owns s p) g.low g.high ≡ b
        owns_is s y b eb =
            sym (eb ∙ rw y (owned_words s p g.low (g.high - g.low) (omega arith)))

        pub request_owner : false ≡ all_are p (1 + g.low) (g.high - g.low) t → (r : Reply) → r ≡ refusal 29 → Moves a t r t
        request_owner b r er = refused a t l 29 r er (λ s o y. rw (lt-leb 8 p hp, lt-ltb g.low g.high hl, le-leb g.high 256 hh, owns_is s y false b))

-- a request that is asked for a range of entries, all of the player's
pub record Asks (t : List ℕ) (p : ℕ) (g : Range) : Type 0 where
  pub long : length t ≡ players_words
  pub player : p < 8
  pub some : g.low < g.high
  pub within : g.high ≤ 256
  pub own : true ≡ all_are p (1 + g.low) (g.high - g.low) t

module _ {t : List ℕ} {p : ℕ} {g : Range} (k : Asks t p g) {x : Scan} (ex : x ≡ scanned (requesting p g) (take 768 (drop 8705 t))) where
  abbrev asked : State → Result
  asked s = step s (RequestGuard p g)

  owned_all : (s : State) → t ≡ table_of s → all_entries (owns s p) g.low g.high ≡ true
  owned_all s y = owns_is t k.long p g k.player k.some k.within s y true k.own

  pub request_again : x.hit ≡ true → (r : Reply) → r ≡ refusal 31 → Moves asked t r t
  request_again d r er = refused asked t k.long 31 r er (λ s o y. rw (lt-leb 8 p k.player, lt-ltb g.low g.high k.some, le-leb g.high 256 k.within, owned_all s y, hit_is o y (requesting p g) ex true d))

  module _ (d : x.hit ≡ false) {full : Bool} (ef : full ≡ turned_away (count_in x.counts) p) where
    pub request_full : full ≡ true → (r : Reply) → r ≡ refusal 38 → Moves asked t r t
    request_full h r er =
        refused asked t k.long 38 r er
        (λ s o y. rw (full_is o y (requesting p g) ex p ef true h, lt-leb 8 p k.player, lt-ltb g.low g.high k.some, le-leb g.high 256 k.within, owned_all s y, hit_is o y (requesting p g) ex false d))

    module _ (h : full ≡ false) where
      pub request_spent : 4000000 ≤ get_or t 0 0 → (r : Reply) → r ≡ refusal 34 → Moves asked t r t
      request_spent n r er =
          refused asked t k.long 34 r er
          (λ s o y. rw (full_is o y (requesting p g) ex p ef false h, lt-leb 8 p k.player, lt-ltb g.low g.high k.some, le-leb g.high 256 k.within, owned_all s y, hit_is o y (requesting p g) ex false d, spent_is o y n))

      pub request_done : get_or t 0 0 < 4000000 → (t₁ : List ℕ) → t₁ ≡ cleared (p * 256 + g.low) (p * 256 + g.high) t → (q : Request) → q ≡ new_request (get_or t 0 0 + 1) p 3 g.low g.high 0 0 false
          → (t' : List ℕ) → t' ≡ added x.used q t₁ → (r : Reply) → r ≡ issued (get_or t 0 0 + 1) → Moves asked t r t'
      request_done n t₁ e₁ q eq t' et r er =
          moves asked t k.long r t'
          (λ s o y.
          let m = last_is o y in
          let lo = g.low in
          let hi = g.high in
          let pl = cleared_player lo hi (s.player p) in
          let s₁ = with_player s p pl in
          let y₁ : t₁ ≡ table_of s₁ = e₁ ∙ ap (cleared (p * 256 + lo) (p * 256 + hi)) y ∙ cleared_put s p k.player lo hi (le_of_lt k.some) k.within pl (λ i _. refl) (λ i _. refl) in
          let f : asked s ≡ request_guard s p g = rw (full_is o y (requesting p g) ex p ef false h, lt-leb 8 p k.player, lt-ltb lo hi k.some, le-leb hi 256 k.within, owned_all s y, hit_is o y (requesting p g) ex false d, left_is o y n) in
          let j = new_request (s.last + 1) p 3 lo hi 0 0 false in
          let q_is : q ≡ j = eq ∙ rw m in
          let c = k.player in
          rw f (er ∙ ap (λ (i : ℕ). issued (i + 1)) m, et ∙ rw (y₁, q_is) (added_state s₁ x.used j (used_is o y (requesting p g) ex) (room_is o y (requesting p g) ex p ef h (omega arith)) refl)))
