-- Step 7: what its code does to a table, and the states that follow.
-- Assumes nothing.
use mathlib.Core.Path.{◌≡◌, refl, sym, ap, ◌∙◌}
use mathlib.Core.Logic.{⊎_elim}
use mathlib.Core.Bool.{Bool, true, false, cond, not, ◌&&◌, and-true, and-false}
use mathlib.Core.List.{List}
use Prim.Native.Nat.{ℕ, zero, suc, ◌+◌, ◌-◌, ◌*◌, ◌≤◌, ◌<◌}
use native.Mathlib.Numerals.{add-one}
use native.Mathlib.Omega.{arith}
use lib.Dec.{T, eqb, ltb}
use lib.ListN.{length, get_or, take, drop}
use borrow.Author.Tests.{eq-eqb, ne_eqb, eqb-true, eqb-false, le-leb, lt-ltb, le-ltb}
use borrow.Rule.Slice.PartMut.{put_mid}
use Rattle.std.specs.Prelude.{Err}
use Rattle.store.specs.Answers.{entries_of}
use Rattle.store.specs.declared.Reply.{Reply}
use Rattle.store.specs.declared.refusal.Refusal.{Refusal}
use Rattle.requests.specs.declared.Request.{Request}
use Rattle.requests.specs.declared.Fit.TheVariants.{Answerable}
use Rattle.requests.specs.Model.{loader, is_guard_request, is_load}
use Rattle.requests.specs.Region.{fields_hold}
use Rattle.requests.specs.Calls.{At, found, without}
use Rattle.requests.proofs.Basics.{decide, clash}
use Rattle.requests.proofs.Rising.{each_at}
use Rattle.requests.proofs.RequestRules.{guard_request_range, entry_low, load_fields, form_of}
use Rattle.requests.proofs.RegionLaws.{stands_in}
use Rattle.players.specs.declared.Step.TheVariants.{Respond}
use Rattle.players.specs.Replies.{granted as grants, not_held, layout_changed, store_read, committed, rejected}
use Rattle.players.specs.Rules.{Cached, State, removed, every, owns, live, may_cache, with_cached, cache, still_owned, respond_guard_request, respond_read, respond_write, respond, step}
use Rattle.players.specs.Table.{players_words, table_of}
use Rattle.steps.specs.InnerWords.{Moves, live_guard, counted_table, caching, filled, dropped}
use Rattle.steps.specs.InnerRespond.{Responds, write_reply, owning, cacheable, remembering}
use Rattle.steps.proofs.AnswerLaws.{bad_entries}
use Rattle.steps.proofs.StateLaws.{owner_word, epoch_word, live_state, counted_state, granted, cached_put}
use Rattle.steps.proofs.LeavingLaws.{fit_moves, removed_put}
use Rattle.steps.proofs.DropLaws.{dropped-put}

-- ---- still owned: the words

module _ (p n : ℕ) (t : List ℕ) (e hi : ℕ) where
  module _ (h : e < hi) where
    one : hi - e ≡ suc (hi - (e + 1))
    one = omega arith

    pub own_other : (get_or t (1 + e) 0 ≡ p → ⊥) → owning p n e (hi - e) t ≡ false
    unfolding owning
    own_other o = rw (one, ne_eqb (get_or t (1 + e) 0) p o)

    pub own_late : get_or t (1 + e) 0 ≡ p → n ≤ get_or t (257 + e) 0 → owning p n e (hi - e) t ≡ false
    unfolding owning
    own_late o l = rw (one, eq-eqb (get_or t (1 + e) 0) p o, le-ltb (get_or t (257 + e) 0) n l)

    pub own_more : get_or t (1 + e) 0 ≡ p → get_or t (257 + e) 0 < n → owning p n e (hi - e) t ≡ owning p n (e + 1) (hi - (e + 1)) t
    unfolding owning
    own_more o l = rw (one, eq-eqb (get_or t (1 + e) 0) p o, lt-ltb (get_or t (257 + e) 0) n l, add-one)

  pub own_end : hi ≤ e → owning p n e (hi - e) t ≡ true
  unfolding owning
  own_end h =
      let z : hi - e ≡ 0 = omega arith in
      rw z

-- ---- what is remembered: the words

module _ (p e g : ℕ) (o : Bool) (version value : ℕ) (t : List ℕ) where
  pub remember_unguarded : g ≡ 0 → t ≡ remembering p e g o version value t
  unfolding remembering
  remember_unguarded z = rw (eq-eqb g 0 z)

  module _ (z : g ≡ 0 → ⊥) where
    pub remember_crossed : o ≡ true → t ≡ remembering p e g o version value t
    unfolding remembering
    remember_crossed y = rw (ne_eqb g 0 z, y)

    module _ (y : o ≡ false) (h : ℕ) (eh : h ≡ live_guard t p e) where
      pub remember_dead : (h ≡ g → ⊥) → t ≡ remembering p e g o version value t
      unfolding remembering
      remember_dead d = rw (ne_eqb g 0 z, y, ne_eqb (live_guard t p e) g (λ x. d (eh ∙ x)))

      pub remember_live : h ≡ g → (t' : List ℕ) → t' ≡ caching (p * 256 + e) g version value t → t' ≡ remembering p e g o version value t
      unfolding remembering
      remember_live d t' et = rw (ne_eqb g 0 z, y, eq-eqb (live_guard t p e) g (sym eh ∙ d)) et

-- ---- the states

-- the entries that are owned still
owning_state : (s : State) (p n e k : ℕ) → e + k ≤ 256 → owning p n e k (table_of s) ≡ every e k (λ x. owns s p x && ltb (s.owners.epoch x) n)
unfolding owning
owning_state s p n e zero h = refl
owning_state s p n e (suc k) h = rw (owner_word s e (omega arith), epoch_word s e (omega arith), owning_state s p n (suc e) k (omega arith))

eqb-sym : (a b : ℕ) → eqb a b ≡ eqb b a
eqb-sym a b = ⊎_elim (λ y. y ∙ sym (eq-eqb b a (sym (eqb-true a b y)))) (λ n. n ∙ sym (ne_eqb b a (λ z. eqb-false a b n (sym z)))) (decide (eqb a b))

no_guard : (g : ℕ) → (not (eqb g 0) && eqb 0 g) ≡ false
no_guard g = ⊎_elim (λ z. rw z) (λ z. rw z (ne_eqb 0 g (λ x. eqb-false g 0 z (sym x)))) (decide (eqb g 0))

none : (a b : Bool) → (a && false) ≡ (a && (b && false))
none true b = sym (and-false b)
none false b = refl

never : (a b : Bool) → (a && (b && false)) ≡ false
never true true = refl
never true false = refl
never false b = refl

-- a guard carried that is the live one, and the held one that is live
may_be : (g h : ℕ) (v o : Bool) → (not (eqb g 0) && (not o && eqb (cond v h 0) g)) ≡ (not (eqb g 0) && (eqb g h && (v && not o)))
may_be g h true true = none (not (eqb g 0)) (eqb g h)
may_be g h false true = none (not (eqb g 0)) (eqb g h)
may_be g h true false = ap (λ (b : Bool). not (eqb g 0) && b) (eqb-sym h g ∙ sym (and-true (eqb g h)))
may_be g h false false = no_guard g ∙ sym (never (not (eqb g 0)) (eqb g h))

table_cond : (b : Bool) (x y : List ℕ) (s s' : State) → x ≡ table_of s → y ≡ table_of s' → cond b x y ≡ table_of (cond b s s')
table_cond true x y s s' ex ey = ex
table_cond false x y s s' ex ey = ey

module _ (r : Request) (hp : r.player < 8) (hl : r.low < 256) where
  pub cacheable_state : (s : State) → cacheable r.player r.low r.guard r.overlapped (table_of s) ≡ may_cache s r
  cacheable_state s =
      rw (live_state s r.player r.low hp hl) (may_be r.guard ((s.player r.player).held r.low) (live s r.player r.low) r.overlapped)

  -- the request has left before its result is cached
  pub remember_state : (s : State) (version value : ℕ) (t : List ℕ) → t ≡ table_of (removed s r) → remembering r.player r.low r.guard r.overlapped version value t ≡ table_of (cache s r version value)
  unfolding remembering
  remember_state s version value t e =
      let c : Cached = record { guard = r.guard; version = version; value = value } in
      rw (e, cacheable_state (removed s r))
      (table_cond (may_cache s r) _ _ (with_cached (removed s r) r.player r.low c) (removed s r) (cached_put (removed s r) r.player hp r.low hl c) refl)

-- ---- read

-- the entry of a request is one
low_of : (r : Request) → T (fields_hold r) → r.low < 256
low_of r k = ⊎_elim (λ g. let h = (guard_request_range r g k).0 in let i = (guard_request_range r g k).1 in omega arith) (λ g. entry_low r g k) (decide (is_guard_request r))

-- the reply to a write, by its outcome
module _ (r : Request) where
  pub committed_reply : r.first ≡ 1 → committed r.serial r.value ≡ write_reply r
  unfolding write_reply
  committed_reply f = rw (eq-eqb r.first 1 f)

  pub rejected_reply : (r.first ≡ 1 → ⊥) → rejected r.serial ≡ write_reply r
  unfolding write_reply
  rejected_reply f = rw (ne_eqb r.first 1 f)

module _ (r : Request) (hp : r.player < 8) where
  pub read_responds : (t u t' : List ℕ) → u ≡ remembering r.player r.low r.guard r.overlapped r.first r.second t → t' ≡ counted_table r.player 3 u → Responds respond_read r t (store_read r.first r.second) t'
  read_responds t u t' e f =
      record {
        responded =
            λ s k _ y.
            (refl, f ∙ ap (counted_table r.player 3) (e ∙ remember_state r hp (low_of r k) s r.first r.second t y) ∙ counted_state (cache s r r.first r.second) r.player 3 hp);
      }

  -- ---- write

  pub write_commits : r.first ≡ 1 → (t t' : List ℕ) → t' ≡ remembering r.player r.low r.guard r.overlapped r.serial r.value t → (x : Reply) → x ≡ write_reply r → Responds respond_write r t x t'
  write_commits f t t' e x ex =
      record { responded = λ s k _ y. rw (eq-eqb r.first 1 f) (ex ∙ sym (committed_reply r f), e ∙ remember_state r hp (low_of r k) s r.serial r.value t y) }

  pub write_rejected : (r.first ≡ 1 → ⊥) → (t t' : List ℕ) → t' ≡ dropped r.guard (r.player * 256) 256 t → (x : Reply) → x ≡ write_reply r → Responds respond_write r t x t'
  write_rejected f t t' e x ex =
      record {
        responded =
            λ s k _ y.
            rw (ne_eqb r.first 1 f, ne_eqb r.player loader (λ z. omega arith))
            (ex ∙ sym (rejected_reply r f), e ∙ ap (dropped r.guard (r.player * 256) 256) y ∙ dropped-put (removed s r) r.player r.guard hp);
      }

-- ---- guard request

module _ (r : Request) (hp : r.player < 8) (g : r.kind ≡ 3) (t : List ℕ) where
  range : T (fields_hold r) → (r.low < r.high) × (r.high ≤ 256)
  range k = guard_request_range r (eq-eqb r.kind 3 g) k

  -- the range of a guard request is one
  pub guard_range : (x : Refusal) → entries_of (record { low = r.low; high = r.high }) ≡ Err x → Responds respond_guard_request r t (not_held r.serial) t
  guard_range x e =
      record {
        responded =
            λ s k _ _.
            let h = (range k).0 in
            let i = (range k).1 in
            absurd (clash (bad_entries (record { low = r.low; high = r.high }) x e).0 (rw (lt-ltb r.low r.high h, le-leb r.high 256 i)));
      }

  module _ (b : Bool) (eb : b ≡ owning r.player r.serial r.low (r.high - r.low) t) where
    owned_is : (s : State) → T (fields_hold r) → t ≡ table_of (removed s r) → still_owned s r ≡ b
    owned_is s k y =
        let h = (range k).0 in
        let i = (range k).1 in
        sym
        (eb ∙ ap (owning r.player r.serial r.low (r.high - r.low)) y
        ∙ owning_state (removed s r) r.player r.serial r.low (r.high - r.low) (omega arith))

    pub guard_lost : b ≡ false → Responds respond_guard_request r t (not_held r.serial) t
    guard_lost f = record { responded = λ s k _ y. rw (owned_is s k y ∙ f) (refl, y) }

    module _ (f : b ≡ true) where
      pub guard_layout : (r.first ≡ 1 → ⊥) → Responds respond_guard_request r t (layout_changed r.serial) t
      guard_layout n = record { responded = λ s k _ y. rw (owned_is s k y ∙ f, ne_eqb r.first 1 n) (refl, y) }

      pub guard_granted : r.first ≡ 1 → (t' : List ℕ) → t' ≡ filled 513 (r.player * 256 + r.low) (r.player * 256 + r.high) r.serial t → Responds respond_guard_request r t (grants r.serial) t'
      guard_granted n t' e =
          record {
            responded =
                λ s k _ y.
                let h = (range k).0 in
                let i = (range k).1 in
                rw (owned_is s k y ∙ f, eq-eqb r.first 1 n)
                (refl, e ∙ ap (filled 513 (r.player * 256 + r.low) (r.player * 256 + r.high) r.serial) y ∙ granted (removed s r) r.player hp r.low r.high (omega arith) i r.serial);
          }

-- ---- load

-- a load carries 0, so that it is not cached, and clears nothing
pub load_responds : (r : Request) → 7 < r.player → (t : List ℕ) (x : Reply) → x ≡ write_reply r → Responds respond r t x t
load_responds r h t x ex =
    record {
      responded =
          λ s k p y.
          let z : r.player ≡ loader = omega arith in
          let l : is_load r ≡ true = eq-eqb r.player loader z in
          let q = load_fields r l k in
          let five = q.0 in
          let g : eqb r.guard 0 ≡ true = eq-eqb r.guard 0 q.1 in
          rw (ne_eqb r.kind 3 (λ w. omega arith), ne_eqb r.kind 4 (λ w. omega arith))
          (⊎_elim
          (λ f. let one = eqb-true r.first 1 f in rw (eq-eqb r.first 1 one, g) (ex ∙ sym (committed_reply r one), y))
          (λ f. let other = eqb-false r.first 1 f in rw (ne_eqb r.first 1 other, l) (ex ∙ sym (rejected_reply r other), y))
          (decide (eqb r.first 1)));
    }

-- ---- by kind

module _ (r : Request) (t : List ℕ) (x : Reply) (t' : List ℕ) where
  pub by_guard_request : r.kind ≡ 3 → Responds respond_guard_request r t x t' → Responds respond r t x t'
  by_guard_request k m = record { responded = λ s h p y. rw (eq-eqb r.kind 3 k) (m.responded s h p y) }

  module _ (k : r.kind ≡ 3 → ⊥) where
    pub by_read : r.kind ≡ 4 → Responds respond_read r t x t' → Responds respond r t x t'
    by_read j m = record { responded = λ s h p y. rw (ne_eqb r.kind 3 k, eq-eqb r.kind 4 j) (m.responded s h p y) }

    pub by_write : (r.kind ≡ 4 → ⊥) → Responds respond_write r t x t' → Responds respond r t x t'
    by_write j m = record { responded = λ s h p y. rw (ne_eqb r.kind 3 k, ne_eqb r.kind 4 j) (m.responded s h p y) }

-- ---- step 7

-- the request leaves, and then its outcome takes effect
pub respond_done : (t : List ℕ) → length t ≡ players_words → (n k : ℕ) (r : Request) → At k r ≡ found Answerable n (take 768 (drop 8705 t)) → (c : List ℕ) → c ≡ without k (take 768 (drop 8705 t)) → (x : Reply) (t' : List ℕ)
    → Responds respond r (put_mid 8705 768 t c) x t' → Moves (λ s. step s (Respond n)) t x t'
respond_done t l n k r e c ec x t' m =
    fit_moves Answerable n respond t l k r e x t'
    (λ s o y st.
    let f = form_of s.last r (each_at _ 0 s.requests o.requests r (stands_in st)) in
    m.responded s f.fields f.player (removed_put o y st c ec))
