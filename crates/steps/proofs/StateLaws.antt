-- The words of a state's table: what is read of them, and the state that they hold once they are changed.
-- Assumes nothing.
use mathlib.Core.Path.{◌≡◌, refl, sym, ap, ◌∙◌}
use mathlib.Core.Logic.{⊎_elim}
use mathlib.Core.Bool.{Bool, true, false, cond, not, ◌&&◌, and-true, and-false}
use mathlib.Core.List.{List, [], ◌∷◌, ◌++◌}
use Prim.Native.Nat.{ℕ, ◌+◌, ◌*◌, ◌≤◌, ◌<◌}
use native.Mathlib.Nat.{zero-add}
use native.Mathlib.Omega.{arith}
use lib.Dec.{eqb}
use lib.ListN.{length, get_or, take, drop, set}
use borrow.Author.Tests.{eq-eqb, ne_eqb, eqb-true, eqb-false}
use borrow.Rule.Slice.PartMut.{put_mid}
use Rattle.store.specs.Model.{put, fill, within}
use Rattle.store.specs.Table.{listed}
use Rattle.store.specs.declared.Range.{Range}
use Rattle.store.proofs.Lists.{get_or-listed}
use Rattle.requests.specs.declared.Request.{Request}
use Rattle.requests.specs.Model.{places}
use Rattle.requests.specs.Region.{region_of}
use Rattle.requests.specs.Calls.{with_request}
use Rattle.requests.proofs.Basics.{decide, cond_elim}
use Rattle.requests.proofs.Placed.{length-placed}
use Rattle.requests.proofs.RegionLaws.{append_region}
use Rattle.counters.specs.declared.Counts.{Counts}
use Rattle.counters.specs.Region.{counted_at, region_of as counter_region}
use Rattle.counters.proofs.RegionLaws.{length_region as length_counters, counted_region}
use Rattle.players.specs.Rules.{Cached, empty, Player, State, with_requests, with_counters, with_count, with_player, issue, live, set_owner, cache_hit, grant, with_cached}
use Rattle.players.specs.Regions.{region, joined}
use Rattle.players.specs.Table.{the_owners, the_epochs, the_held, the_guards, the_versions, the_values, the_requests, the_counters, cells, regions, table_of}
use Rattle.players.proofs.Regions.{region_at, made_put, made_set}
use Rattle.players.proofs.Tables.{made_of, owners_of, epochs_of, held_of, guards_of, versions_of, values_of, requests_of, counters_of}
use Rattle.steps.specs.InnerWords.{live_guard, hit, added, counted_table, caching, filled, cleared}
use Rattle.steps.proofs.RunLaws.{run, run-listed, cells_at, same_cells, set-cells, run-cells, put_part, keep_part}
use Rattle.steps.proofs.TableLaws.{made_fill}

-- ---- what is read

-- a guard that is compared with the live one
same_live : (g h : ℕ) (v : Bool) → (not (eqb g 0) && eqb (cond v h 0) g) ≡ (not (eqb g 0) && (eqb g h && v))
same_live g h v =
    ⊎_elim (λ z. rw z)
    (λ z.
    rw z
    (cond_elim (λ (x : ℕ). eqb x g ≡ (eqb g h && v)) v h 0 (λ y. rw y (eqb_sym h g ∙ sym (and-true (eqb g h))))
    (λ y. rw (y, and-false) (ne_eqb 0 g (λ x. eqb-false g 0 z (sym x))))))
    (decide (eqb g 0))
  where
    eqb_sym : (a b : ℕ) → eqb a b ≡ eqb b a
    eqb_sym a b = ⊎_elim (λ y. y ∙ sym (eq-eqb b a (sym (eqb-true a b y)))) (λ n. n ∙ sym (ne_eqb b a (λ z. eqb-false a b n (sym z)))) (decide (eqb a b))

module _ (s : State) where
  listed_word : (b : ℕ) (f : ℕ → ℕ) → region b 256 (table_of s) ≡ listed f 0 256 → (e : ℕ) → e < 256 → get_or (table_of s) (b + e) 0 ≡ f e
  listed_word b f r e h = sym (region_at b 256 (table_of s) e 0 h) ∙ ap (λ (l : List ℕ). get_or l e 0) r ∙ get_or-listed f 0 256 e h ∙ ap f (zero-add e)

  pub owner_word : (e : ℕ) → e < 256 → get_or (table_of s) (1 + e) 0 ≡ s.owners.owner e
  owner_word e h = listed_word 1 s.owners.owner (owners_of s) e h

  pub epoch_word : (e : ℕ) → e < 256 → get_or (table_of s) (257 + e) 0 ≡ s.owners.epoch e
  epoch_word e h = listed_word 257 s.owners.epoch (epochs_of s) e h

  module _ (p e : ℕ) (hp : p < 8) (he : e < 256) where
    cell_word : (b : ℕ) (f : ℕ → ℕ → ℕ) → region b 2048 (table_of s) ≡ cells f → get_or (table_of s) (b + (p * 256 + e)) 0 ≡ f p e
    cell_word b f r = sym (region_at b 2048 (table_of s) (p * 256 + e) 0 (omega arith)) ∙ ap (λ (l : List ℕ). get_or l (p * 256 + e) 0) r ∙ cells_at f p e hp he

    pub held_word : get_or (table_of s) (513 + (p * 256 + e)) 0 ≡ (s.player p).held e
    held_word = cell_word 513 (λ q x. (s.player q).held x) (held_of s)

    pub guard_word : get_or (table_of s) (2561 + (p * 256 + e)) 0 ≡ ((s.player p).cached e).guard
    guard_word = cell_word 2561 (λ q x. ((s.player q).cached x).guard) (guards_of s)

    pub version_word : get_or (table_of s) (4609 + (p * 256 + e)) 0 ≡ ((s.player p).cached e).version
    version_word = cell_word 4609 (λ q x. ((s.player q).cached x).version) (versions_of s)

    pub value_word : get_or (table_of s) (6657 + (p * 256 + e)) 0 ≡ ((s.player p).cached e).value
    value_word = cell_word 6657 (λ q x. ((s.player q).cached x).value) (values_of s)

    pub live_state : live_guard (table_of s) p e ≡ cond (live s p e) ((s.player p).held e) 0
    unfolding live_guard
    live_state = rw (held_word, owner_word e he, epoch_word e he)

    pub hit_state : hit (table_of s) p e ≡ cache_hit s p e
    unfolding hit
    hit_state = rw (guard_word, live_state) (same_live ((s.player p).cached e).guard ((s.player p).held e) (live s p e))

-- ---- the requests, and the last serial

pub part_of : (s : State) → take 768 (drop 8705 (table_of s)) ≡ region_of s.requests
unfolding region
part_of s = requests_of s

pub requests_put : (s : State) (q : List ℕ) (rs : List Request) → q ≡ region_of rs → put_mid 8705 768 (table_of s) q ≡ table_of (with_requests s rs)
unfolding table_of
requests_put s q rs e = rw e (made_put (made_of s) the_requests tt (region_of rs) (length-placed places rs)).is

pub issue-put : (s : State) (n : ℕ) → n ≡ s.last + 1 → set (table_of s) 0 n ≡ table_of (issue s)
unfolding table_of
issue-put s n e = rw e

-- a request is added
pub added_state : (s : State) (k : ℕ) (r : Request) → k ≡ length s.requests → length s.requests < places → r.serial ≡ s.last + 1
    → added k r (table_of s) ≡ table_of (with_requests (issue s) (s.requests ++ (r ∷ [])))
unfolding added
added_state s k r ek h er =
    rw (issue-put s r.serial er, ek)
    (requests_put (issue s) _ _ (ap (with_request (length s.requests) r) (part_of (issue s)) ∙ append_region s.requests r h))

-- ---- the read counters

counters_part : (s : State) → take 16 (drop 9473 (table_of s)) ≡ counter_region s.counters
unfolding region
counters_part s = counters_of s

counters_put : (s : State) (q : List ℕ) (f : ℕ → Counts) → q ≡ counter_region f → put_mid 9473 16 (table_of s) q ≡ table_of (with_counters s f)
unfolding table_of
counters_put s q f e = rw e (made_put (made_of s) the_counters tt (counter_region f) (length_counters f)).is

-- the words of a player's counter put back
pub counted_words : (p code : ℕ) (t q : List ℕ) → q ≡ counted_at p code (take 16 (drop 9473 t)) → put_mid 9473 16 t q ≡ counted_table p code t
unfolding counted_table
counted_words p code t q e = ap (put_mid 9473 16 t) e

-- a read of a player is counted
pub counted_state : (s : State) (p code : ℕ) → p < 8 → counted_table p code (table_of s) ≡ table_of (with_count s p code)
unfolding counted_table
counted_state s p code h = counters_put s _ _ (ap (counted_at p code) (counters_part s) ∙ counted_region s.counters p code h)

-- ---- owners

pub owners_put : (s : State) (p n : ℕ) (g : Range) → n ≡ s.last + 1 → g.low ≤ g.high → g.high ≤ 256 → filled 257 g.low g.high n (filled 1 g.low g.high p (set (table_of s) 0 n)) ≡ table_of (set_owner s p g).state
unfolding table_of
owners_put s p n g e a h =
    let lo = g.low in
    let hi = g.high in
    let m = made_fill (made_fill (made_of (issue s)) the_owners lo hi p tt a h) the_epochs lo hi (s.last + 1) tt a h in
    rw e (m.is ∙ rw (run-listed s.owners.owner 256 lo hi p a h, run-listed s.owners.epoch 256 lo hi (s.last + 1) a h))

-- ---- one player

module _ (s : State) (p : ℕ) (pl : Player) where
  pub player_table : (hs gs vs xs : List ℕ)
      → hs ≡ cells (λ q x. (put p pl s.player q).held x)
      → gs ≡ cells (λ q x. ((put p pl s.player q).cached x).guard)
      → vs ≡ cells (λ q x. ((put p pl s.player q).cached x).version)
      → xs ≡ cells (λ q x. ((put p pl s.player q).cached x).value)
      → joined (set (set (set (set (regions s) the_held hs) the_guards gs) the_versions vs) the_values xs) ≡ table_of (with_player s p pl)
  unfolding table_of
  player_table hs gs vs xs eh eg ev ex = rw (eh, eg, ev, ex)

  -- what a region becomes whose cells of player p are changed
  pub held_changed : (w : ℕ → Bool) (v : ℕ) → ((x : ℕ) → x < 256 → pl.held x ≡ cond (w x) v ((s.player p).held x)) → cells (λ q x. cond (eqb q p && w x) v ((s.player q).held x)) ≡ cells (λ q x. (put p pl s.player q).held x)
  held_changed w v e = same_cells _ _ (λ q x _ h. put_part (λ P. P.held x) s.player p pl (w x) v (e x h) q)

  pub cached_changed : (F : Cached → ℕ) (w : ℕ → Bool) (v : ℕ) → ((x : ℕ) → x < 256 → F (pl.cached x) ≡ cond (w x) v (F ((s.player p).cached x))) → cells (λ q x. cond (eqb q p && w x) v (F ((s.player q).cached x))) ≡ cells (λ q x. F ((put p pl s.player q).cached x))
  cached_changed F w v e = same_cells _ _ (λ q x _ h. put_part (λ P. F (P.cached x)) s.player p pl (w x) v (e x h) q)

  pub held_kept : pl.held ≡ (s.player p).held → cells (λ q x. (s.player q).held x) ≡ cells (λ q x. (put p pl s.player q).held x)
  held_kept e = same_cells _ _ (λ q x _ _. keep_part (λ P. P.held x) s.player p pl (ap (λ (f : ℕ → ℕ). f x) e) q)

  pub cached_kept : (F : Cached → ℕ) → pl.cached ≡ (s.player p).cached → cells (λ q x. F ((s.player q).cached x)) ≡ cells (λ q x. F ((put p pl s.player q).cached x))
  cached_kept F e = same_cells _ _ (λ q x _ _. keep_part (λ P. F (P.cached x)) s.player p pl (ap (λ (f : ℕ → Cached). F (f x)) e) q)

pub field_cond : (F : Cached → ℕ) (b : Bool) (c d : Cached) → F (cond b c d) ≡ cond b (F c) (F d)
field_cond F true c d = refl
field_cond F false c d = refl

module _ (s : State) (p : ℕ) (hp : p < 8) where
  -- what is cached for an entry
  module _ (e : ℕ) (he : e < 256) (c : Cached) where
    abbrev caches : Player
    caches = record { held = (s.player p).held; cached = put e c (s.player p).cached }

    cell_set : (F : Cached → ℕ) → set (cells (λ q x. F ((s.player q).cached x))) (p * 256 + e) (F c) ≡ cells (λ q x. F ((put p caches s.player q).cached x))
    cell_set F = set-cells (λ q x. F ((s.player q).cached x)) p e (F c) hp he ∙ cached_changed s p caches F (λ x. eqb x e) (F c) (λ x _. field_cond F (eqb x e) c ((s.player p).cached x))

    pub cached_put : caching (p * 256 + e) c.guard c.version c.value (table_of s) ≡ table_of (with_cached s p e c)
    unfolding caching
    cached_put =
        let i : ℕ = p * 256 + e in
        let h : i < 2048 = omega arith in
        let m₁ = made_set (made_of s) the_guards i c.guard tt h in
        let m₂ = made_set m₁ the_versions i c.version tt h in
        let m₃ = made_set m₂ the_values i c.value tt h in
        m₃.is ∙ player_table s p caches _ _ _ _ (held_kept s p caches refl) (cell_set (λ d. d.guard)) (cell_set (λ d. d.version)) (cell_set (λ d. d.value))

  -- guards over a range of entries
  module _ (lo hi : ℕ) (a : lo ≤ hi) (h : hi ≤ 256) where
    abbrev from : ℕ
    from = p * 256 + lo

    abbrev to : ℕ
    to = p * 256 + hi

    pub granted : (n : ℕ) → filled 513 from to n (table_of s) ≡ table_of (grant s p lo hi n)
    granted n =
        let pl : Player = record { held = fill lo hi n (s.player p).held; cached = (s.player p).cached } in
        (made_fill (made_of s) the_held from to n tt (omega arith) (omega arith)).is
        ∙ player_table s p pl _ _ _ _
        (run-cells (λ q x. (s.player q).held x) p lo hi n hp a h ∙ held_changed s p pl (within lo hi) n (λ x _. refl))
        (cached_kept s p pl (λ d. d.guard) refl) (cached_kept s p pl (λ d. d.version) refl) (cached_kept s p pl (λ d. d.value) refl)

    -- cleared, each with what is cached under it; pl is the player after it
    module _ (pl : Player) (eh : (x : ℕ) → x < 256 → pl.held x ≡ cond (within lo hi x) 0 ((s.player p).held x)) (ec : (x : ℕ) → x < 256 → pl.cached x ≡ cond (within lo hi x) empty ((s.player p).cached x)) where
      run_cached : (F : Cached → ℕ) → F empty ≡ 0 → run from to 0 (cells (λ q x. F ((s.player q).cached x))) ≡ cells (λ q x. F ((put p pl s.player q).cached x))
      run_cached F z =
          run-cells (λ q x. F ((s.player q).cached x)) p lo hi 0 hp a h
          ∙ cached_changed s p pl F (within lo hi) 0
          (λ x k. ap F (ec x k) ∙ field_cond F (within lo hi x) empty ((s.player p).cached x) ∙ ap (λ (v : ℕ). cond (within lo hi x) v (F ((s.player p).cached x))) z)

      pub cleared_put : cleared from to (table_of s) ≡ table_of (with_player s p pl)
      unfolding cleared
      cleared_put =
          let b : from ≤ to = omega arith in
          let k : to ≤ 2048 = omega arith in
          let m₁ = made_fill (made_of s) the_held from to 0 tt b k in
          let m₂ = made_fill m₁ the_guards from to 0 tt b k in
          let m₃ = made_fill m₂ the_versions from to 0 tt b k in
          let m₄ = made_fill m₃ the_values from to 0 tt b k in
          m₄.is
          ∙ player_table s p pl _ _ _ _ (run-cells (λ q x. (s.player q).held x) p lo hi 0 hp a h ∙ held_changed s p pl (within lo hi) 0 eh)
          (run_cached (λ d. d.guard) refl) (run_cached (λ d. d.version) refl) (run_cached (λ d. d.value) refl)
