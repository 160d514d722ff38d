-- What the calls' stores make of a table, case by case.
-- Assumes nothing.
use mathlib.Core.Path.{◌≡◌, refl, sym, ap, ◌∙◌}
use mathlib.Core.Bool.{Bool, true, false, cond, true≢false}
use mathlib.Core.List.{List}
use Prim.Native.Nat.{ℕ, ◌+◌, ◌-◌, ◌<◌}
use native.Mathlib.Omega.{arith}
use native.Mathlib.Nat.{zero-add}
use lib.Dec.{T, eqb}
use lib.ListN.{length, get_or, set, take, length-set}
use lib.Seq.{ext_get_or, get_or-set_same, get_or-set_other}
use mathlib.Core.Logic.{⊎_elim}
use borrow.Author.Tests.{eq-eqb, ne_eqb, eqb-true, eqb-false}
use Rattle.store.specs.Model.{Store, serials, bad_range, put, unbroken, tablet_first, tablet_end, committed, with_boundary, matches, barred}
use Rattle.store.specs.Table.{part, store_of, listed, table_of, valid}
use Rattle.store.specs.Words.{tested, found_in, guarded_words, install_words, read_words, commit_words, split_words, merge_words, restart_words, interval_words}
use Rattle.store.specs.Calls.{reply, IntervalReply, guard_interval, Result, result, refusal, bad_serial, Done, done, checked, called, Refines}
use Rattle.store.specs.Answers.{nothing, as_reply, interval_reply, entries_of}
use Rattle.store.specs.Refusals.{number_of}
use Rattle.store.specs.declared.refusal.Refusal.{Refusal}
use Rattle.store.specs.declared.refusal.Refusal.TheVariants.{OutOfRange}
use Rattle.std.specs.Prelude.{Ok, Err}
use Rattle.std.specs.Prelude.{Result as Answer}
use Rattle.std.specs.Result.{is_ok, result_unwrap_or}
use Rattle.store.specs.declared.Reply.{Reply}
use Rattle.store.specs.declared.Range.{Range}
use Rattle.store.specs.declared.Span.{Span}
use Rattle.std.specs.Array.{IsWholeChunk}
use Rattle.store.proofs.Refusals.{number_of-positive}
use Rattle.store.proofs.Bools.{decide}
use Rattle.store.proofs.Lists.{length-listed, get_or-listed}
use Rattle.store.proofs.Parts.{part-set, part-set_below, part-set_above, same_parts}
use Rattle.store.proofs.Tables.{table_parts, valid_parts, table_store}
use Rattle.store.proofs.SearchLaws.{found_guard}

-- ---- a call on any words: u is the table as an array, which a table of the wrong length does not give

pub tested_whole : (w : List ℕ → Done) (t u : List ℕ) → IsWholeChunk t u 1280 → (d : Done) → d ≡ w u → d ≡ tested w t
tested_whole w t u k d e = e ∙ rw (k.same, eq-eqb (length t) 1280 k.long)

pub tested_read : (w : List ℕ → Done) (t u : List ℕ) → IsWholeChunk t u 1280 → (r : Reply) → done r u ≡ w u → done r t ≡ tested w t
tested_read w t u k r e = rw (eq-eqb (length t) 1280 k.long) (rw k.same at e)

pub whole_length : (t u : List ℕ) → IsWholeChunk t u 1280 → length u ≡ 1280
whole_length t u k = ap length k.same ∙ k.long

-- the call that finds an interval
pub interval_whole : (t u : List ℕ) → IsWholeChunk t u 1280 → (e : ℕ) (x : Span) → x ≡ found_in u 0 e → guard_interval 0 x.guard x.first x.last ≡ interval_words e t
unfolding interval_words
interval_whole t u k e x h = rw (eq-eqb (length t) 1280 k.long, h, k.same)

pub interval_wrong_length : (t : List ℕ) (e : ℕ) → (length t ≡ 1280 → ⊥) → guard_interval 21 0 0 0 ≡ interval_words e t
unfolding interval_words
interval_wrong_length t e h = rw (ne_eqb (length t) 1280 h)

-- a table of the right length is not refused
pub interval_given : (t : List ℕ) → length t ≡ 1280 → (e : ℕ) (r : Refusal) → interval_reply (Err r) ≡ interval_words e t → ⊥
unfolding interval_words
interval_given t w e r h = number_of-positive r (rw (eq-eqb (length t) 1280 w) at (ap (λ (x : IntervalReply). x.code) h))

-- ---- one word set

set-listed : (f : ℕ → ℕ) (n e v : ℕ) → e < n → set (listed f 0 n) e v ≡ listed (put e v f) 0 n
set-listed f n e v h =
    ext_get_or 0 _ _ (length-set (listed f 0 n) e v ∙ length-listed f 0 n ∙ sym (length-listed (put e v f) 0 n))
    (λ i q.
    let r : i < n = rw (length-set, length-listed) at q in
    ⊎_elim
    (λ x.
    let y : i ≡ e = eqb-true i e x in
    ap (λ (k : ℕ). get_or (set (listed f 0 n) e v) k 0) y
    ∙ get_or-set_same (listed f 0 n) e v 0 (rw length-listed h)
    ∙ sym (get_or-listed (put e v f) 0 n i r ∙ rw (zero-add, x)))
    (λ x.
    get_or-set_other (listed f 0 n) e i v 0 (eqb-false i e x)
    ∙ get_or-listed f 0 n i r
    ∙ sym (get_or-listed (put e v f) 0 n i r ∙ rw (zero-add, x)))
    (decide (eqb i e)))

module _ (n : ℕ) (t : List ℕ) (w : length t ≡ 1280) (v : T (valid n t)) (e : ℕ) (h : e < 256) where
  pub set_boundary : (b : ℕ) → set t e b ≡ table_of (with_boundary (store_of t) (put e b (store_of t).boundary))
  set_boundary b =
      let p = valid_parts n t w v in
      same_parts
      (record {
        whole = length-set t e b ∙ w;
        boundaries = ap (λ (i : ℕ). part 0 (set t i b)) (sym (zero-add e)) ∙ part-set 0 t e b h ∙ ap (λ (l : List ℕ). set l e b) p.boundaries ∙ set-listed _ 256 e b h;
        starts = part-set_below 256 t e b h ∙ p.starts;
        labels = part-set_below 512 t e b (omega arith) ∙ p.labels;
        versions = part-set_below 768 t e b (omega arith) ∙ p.versions;
        values = part-set_below 1024 t e b (omega arith) ∙ p.values;
      })
      (table_parts (with_boundary (store_of t) (put e b (store_of t).boundary)))

  pub set_cell : (s x : ℕ) → set (set t (768 + e) s) (1024 + e) x ≡ table_of (committed (store_of t) e s x)
  set_cell s x =
      let p = valid_parts n t w v in
      let t₁ : List ℕ = set t (768 + e) s in
      same_parts
      (record {
        whole = length-set t₁ (1024 + e) x ∙ length-set t (768 + e) s ∙ w;
        boundaries = part-set_above 0 t₁ (1024 + e) x (omega arith) ∙ part-set_above 0 t (768 + e) s (omega arith) ∙ p.boundaries;
        starts = part-set_above 256 t₁ (1024 + e) x (omega arith) ∙ part-set_above 256 t (768 + e) s (omega arith) ∙ p.starts;
        labels = part-set_above 512 t₁ (1024 + e) x (omega arith) ∙ part-set_above 512 t (768 + e) s (omega arith) ∙ p.labels;
        versions = part-set_above 768 t₁ (1024 + e) x (omega arith) ∙ part-set 768 t e s h ∙ ap (λ (l : List ℕ). set l e s) p.versions ∙ set-listed _ 256 e s h;
        values = part-set 1024 t₁ e x h ∙ ap (λ (l : List ℕ). set l e x) (part-set_below 1024 t (768 + e) s (omega arith) ∙ p.values) ∙ set-listed _ 256 e x h;
      })
      (table_parts (committed (store_of t) e s x))

-- ---- a range, tested

abbrev number : Answer Range Refusal → ℕ
number (Ok _) = 0
number (Err e) = number_of e

refused_range : (b : Bool) (r : Range) (e : Refusal) → Err e ≡ cond b (Err OutOfRange) (Ok r) → (b ≡ true) × (number_of e ≡ 28)
refused_range true r e h = (refl, ap number h)
refused_range false r e h = absurd (true≢false (sym (ap is_ok h)))

taken_range : (b : Bool) (r x : Range) → Ok x ≡ cond b (Err OutOfRange) (Ok r) → (b ≡ false) × (x ≡ r)
taken_range true r x h = absurd (true≢false (ap is_ok h))
taken_range false r x h = (refl, ap (λ y. result_unwrap_or y r) h)

-- ---- the calls

module _ (t : List ℕ) where
  -- the boundaries, as the code reads them
  abbrev pub bounds : ℕ → ℕ
  bounds e = get_or (take 256 t) e 0

  module _ (r : Range) (g : ℕ) where
    pub install_bad : (e : Refusal) → Err e ≡ entries_of r → done (reply (number_of e) 0 0) t ≡ install_words r g t
    unfolding install_words
    install_bad e h = let p = refused_range (bad_range r) r e h in rw (p.0, p.1) refl

    module _ (x : Range) (h : Ok x ≡ entries_of r) where
      pub install_across : unbroken bounds (x.low + 1) (x.high - (x.low + 1)) ≡ false → done (reply 0 2 0) t ≡ install_words r g t
      unfolding install_words store_of part
      install_across u = let p = taken_range (bad_range r) r x h in rw (p.0, ← p.1, u) refl

      pub install_set : unbroken bounds (x.low + 1) (x.high - (x.low + 1)) ≡ true → (t' : List ℕ) → t' ≡ guarded_words x.low x.high g t → done (reply 0 1 0) t' ≡ install_words r g t
      unfolding install_words store_of part
      install_set u t' s = let p = taken_range (bad_range r) r x h in rw (p.0, ← p.1, u, s) refl

  module _ (e : ℕ) where
    pub read_is : done (reply 0 (get_or t (768 + e) 0) (get_or t (1024 + e) 0)) t ≡ read_words e t
    unfolding read_words
    read_is = refl

    module _ (w : length t ≡ 1280) (h : e < 256) (v s g : ℕ) where
      -- the guard, as the search finds it
      module _ (x : ℕ) (ex : x ≡ (found_in t 0 e).guard) where
        pub commit_other : matches g x ≡ false → done (reply 0 2 0) t ≡ commit_words e v s g t
        unfolding commit_words
        commit_other m = rw (← found_guard t w e h, ← ex, m)

        pub commit_same : matches g x ≡ true → done (reply 0 1 0) (set (set t (768 + e) s) (1024 + e) v) ≡ commit_words e v s g t
        unfolding commit_words
        commit_same m = rw (← found_guard t w e h, ← ex, m)

    pub split_first : e ≡ 0 → done (reply 28 0 0) t ≡ split_words e t
    unfolding split_words
    split_first z = rw (eq-eqb e 0 z)

    pub split_stands : (e ≡ 0 → ⊥) → get_or t e 0 ≡ 1 → done (reply 35 0 0) t ≡ split_words e t
    unfolding split_words
    split_stands z x = rw (ne_eqb e 0 z, eq-eqb (get_or t e 0) 1 x)

    pub split_set : (e ≡ 0 → ⊥) → (get_or t e 0 ≡ 1 → ⊥) → done (reply 0 0 0) (set t e 1) ≡ split_words e t
    unfolding split_words
    split_set z x = rw (ne_eqb e 0 z, ne_eqb (get_or t e 0) 1 x)

    pub merge_first : e ≡ 0 → done (reply 28 0 0) t ≡ merge_words e t
    unfolding merge_words
    merge_first z = rw (eq-eqb e 0 z)

    pub merge_none : (e ≡ 0 → ⊥) → get_or t e 0 ≡ 0 → done (reply 35 0 0) t ≡ merge_words e t
    unfolding merge_words
    merge_none z x = rw (ne_eqb e 0 z, eq-eqb (get_or t e 0) 0 x)

    pub merge_set : (e ≡ 0 → ⊥) → (get_or t e 0 ≡ 0 → ⊥) → done (reply 0 0 0) (set t e 0) ≡ merge_words e t
    unfolding merge_words
    merge_set z x = rw (ne_eqb e 0 z, ne_eqb (get_or t e 0) 0 x)

    pub restart_is : (lo hi : ℕ) → lo ≡ tablet_first bounds e → hi ≡ tablet_end bounds e (255 - e) → (t' : List ℕ) → t' ≡ guarded_words lo hi barred t → done (reply 0 0 0) t' ≡ restart_words e t
    unfolding restart_words store_of part
    restart_is lo hi el eh t' s = rw (s, el, eh)

-- ---- calls that test the table first

both_tests : (a b : Bool) (x y z : Reply) → (y.code ≡ 0 → ⊥) → (z.code ≡ 0 → ⊥) → (cond a (cond b x y) z).code ≡ 0 → (a ≡ true) × (b ≡ true)
both_tests true true x y z hy hz e = (refl, refl)
both_tests true false x y z hy hz e = absurd (hy e)
both_tests false b x y z hy hz e = absurd (hz e)

module _ (t : List ℕ) (z : as_reply nothing (Ok tt) ≡ checked serials t) where
  -- the table is sound
  pub passed : (eqb (length t) 1280 ≡ true) × (valid serials t ≡ true)
  passed =
      both_tests (eqb (length t) 1280) (valid serials t) (reply 0 0 0) (reply 22 0 0) (reply 21 0 0) (λ x. eqb-false 22 0 refl x) (λ x. eqb-false 21 0 refl x)
      (sym (ap (λ (y : Reply). y.code) z))

  long : length t ≡ 1280
  long = eqb-true (length t) 1280 passed.0

  holds : T (valid serials t)
  holds = rw passed.1 tt

  -- the call is refused for another reason
  pub declined : (f : Store → Result) (a : Reply) → f (store_of t) ≡ result a (store_of t) → done a t ≡ called f t
  declined f a k = rw (passed.0, passed.1, k, table_store serials t long holds)

  -- the call is the step
  pub finished : (f : Store → Result) (a : Reply) (t' : List ℕ) → Refines f t a t' → done a t' ≡ called f t
  finished f a t' s = rw (passed.0, passed.1) (s.right serials long holds)

  module _ (g : Store → Result) (n : ℕ) where
    -- a serial that is refused
    abbrev pub guarded_call : Store → Result
    guarded_call st = cond (bad_serial n) (refusal 28 st) (g st)

    pub wrong_serial : bad_serial n ≡ true → done (reply 28 0 0) t ≡ called guarded_call t
    wrong_serial h = declined guarded_call (reply 28 0 0) (rw h)

    pub good_serial : bad_serial n ≡ false → (a : Reply) (t' : List ℕ) → Refines g t a t' → done a t' ≡ called guarded_call t
    good_serial h a t' s = rw h (finished g a t' s)
