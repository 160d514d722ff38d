-- "A refusal gives its number and two zeros and alters no table or buffer": of every call of the store used alone, on any words. Refusals are
-- the codes from 21 on.
-- Assumes nothing.
use mathlib.Core.Path.{◌≡◌, refl, ap, ◌∙◌}
use mathlib.Core.Bool.{Bool, true, false, cond}
use mathlib.Core.List.{List}
use Prim.Native.Nat.{ℕ, ◌≤◌}
use native.Mathlib.Omega.{arith}
use lib.Dec.{eqb}
use lib.ListN.{length, get_or}
use borrow.Author.Tests.{eqb-true}
use Rattle.store.specs.Model.{Store, serials, bad_range, one_tablet, commits}
use Rattle.store.specs.Table.{store_of, valid}
use Rattle.store.specs.Calls.{reply, Result, refusal, outcome, bad_serial, Done, done, encoded, called, made_fresh, install, read, commit, split, merge, restart, set_guard, write, guard_interval, found_interval}
use Rattle.store.specs.Words.{tested, install_words, read_words, commit_words, split_words, merge_words, restart_words, interval_words}
use Rattle.store.specs.declared.Range.{Range}
use Rattle.store.specs.Calls.{IntervalReply}
use Rattle.store.specs.Refusals.{number_of}
use Rattle.store.specs.declared.refusal.Refusal.{Refusal}
use Rattle.store.specs.declared.refusal.Refusal.TheVariants.{WrongLength, BrokenRule, NoMark, CutShort, UnknownField, UnknownKind, WrongFields, OutOfRange, NotOwner, NoLiveGuard, AlreadyRequested, NoSuchRequest, NoSerialLeft, WrongBoundary, BufferShort, TooLong, NoPlaceLeft, NoAnsweredRead}
use Rattle.store.proofs.Bools.{cond_both}
use Rattle.store.proofs.Tables.{table_store}

-- ---- the numbers

pub number_of-least : (r : Refusal) → 21 ≤ number_of r
number_of-least WrongLength = omega arith
number_of-least BrokenRule = omega arith
number_of-least NoMark = omega arith
number_of-least CutShort = omega arith
number_of-least UnknownField = omega arith
number_of-least UnknownKind = omega arith
number_of-least WrongFields = omega arith
number_of-least OutOfRange = omega arith
number_of-least NotOwner = omega arith
number_of-least NoLiveGuard = omega arith
number_of-least AlreadyRequested = omega arith
number_of-least NoSuchRequest = omega arith
number_of-least NoSerialLeft = omega arith
number_of-least WrongBoundary = omega arith
number_of-least BufferShort = omega arith
number_of-least TooLong = omega arith
number_of-least NoPlaceLeft = omega arith
number_of-least NoAnsweredRead = omega arith

pub number_of-positive : (r : Refusal) → number_of r ≡ 0 → ⊥
number_of-positive r e = omega (arith, number_of-least r, e)

-- ---- by the rules: a refusal leaves the store

record Stays (st : Store) (x : Result) : Type 0 where
  stays : 21 ≤ x.reply.code → x ≡ refusal x.reply.code st

refuses : (n : ℕ) (st : Store) → Stays st (refusal n st)
refuses n st = record { stays = λ h. refl }

does : (o : ℕ) (st st' : Store) → Stays st (outcome o st')
does o st st' = record { stays = λ h. absurd (omega arith) }

module _ (st : Store) where
  install_stays : (r : Range) (g : ℕ) → Stays st (install r g st)
  install_stays r g = cond_both (Stays st) (bad_range r) _ _ (refuses 28 st) (cond_both (Stays st) (one_tablet st r.low r.high) _ _ (does 1 st _) (does 2 st _))

  read_stays : (e : ℕ) → Stays st (read e st)
  read_stays e = record { stays = λ h. absurd (omega arith) }

  commit_stays : (e v s g : ℕ) → Stays st (commit e v s g st)
  commit_stays e v s g = cond_both (Stays st) (commits st e g) _ _ (does 1 st _) (does 2 st _)

  split_stays : (e : ℕ) → Stays st (split e st)
  split_stays e = cond_both (Stays st) (eqb e 0) _ _ (refuses 28 st) (cond_both (Stays st) (eqb (st.boundary e) 1) _ _ (refuses 35 st) (does 0 st _))

  merge_stays : (e : ℕ) → Stays st (merge e st)
  merge_stays e = cond_both (Stays st) (eqb e 0) _ _ (refuses 28 st) (cond_both (Stays st) (eqb (st.boundary e) 0) _ _ (refuses 35 st) (does 0 st _))

  restart_stays : (e : ℕ) → Stays st (restart e st)
  restart_stays e = does 0 st _

  set_guard_stays : (r : Range) (s : ℕ) → Stays st (set_guard r s st)
  set_guard_stays r s = cond_both (Stays st) (bad_serial s) _ _ (refuses 28 st) (install_stays r s)

  write_stays : (e v s g : ℕ) → Stays st (write e v s g st)
  write_stays e v s g = cond_both (Stays st) (bad_serial s) _ _ (refuses 28 st) (commit_stays e v s g)

-- ---- on any words: a refusal leaves the table

pub record Keeps (t : List ℕ) (d : Done) : Type 0 where
  pub kept : 21 ≤ d.reply.code → d ≡ done (reply d.reply.code 0 0) t

called_keeps : (f : Store → Result) (t : List ℕ) → Stays (store_of t) (f (store_of t)) → Keeps t (called f t)
called_keeps f t s = by (eqb (length t) 1280) (valid serials t) refl refl
  where
    by : (w v : Bool) → eqb (length t) 1280 ≡ w → valid serials t ≡ v → Keeps t (cond w (cond v (encoded (f (store_of t))) (done (reply 22 0 0) t)) (done (reply 21 0 0) t))
    by true true ew ev =
        record { kept = λ h. ap encoded (s.stays h) ∙ ap (done (reply (f (store_of t)).reply.code 0 0)) (table_store serials t (eqb-true (length t) 1280 ew) (rw ev tt)) }
    by true false ew ev = record { kept = λ h. refl }
    by false v ew ev = record { kept = λ h. refl }

module _ (t : List ℕ) where
  pub set_guard_keeps : (r : Range) (s : ℕ) → Keeps t (called (set_guard r s) t)
  set_guard_keeps r s = called_keeps (set_guard r s) t (set_guard_stays (store_of t) r s)

  pub read_keeps : (e : ℕ) → Keeps t (called (read e) t)
  read_keeps e = called_keeps (read e) t (read_stays (store_of t) e)

  pub write_keeps : (e v s g : ℕ) → Keeps t (called (write e v s g) t)
  write_keeps e v s g = called_keeps (write e v s g) t (write_stays (store_of t) e v s g)

  pub split_keeps : (e : ℕ) → Keeps t (called (split e) t)
  split_keeps e = called_keeps (split e) t (split_stays (store_of t) e)

  pub merge_keeps : (e : ℕ) → Keeps t (called (merge e) t)
  merge_keeps e = called_keeps (merge e) t (merge_stays (store_of t) e)

  pub restart_keeps : (e : ℕ) → Keeps t (called (restart e) t)
  restart_keeps e = called_keeps (restart e) t (restart_stays (store_of t) e)

-- ---- the call that finds an interval, which leaves the table: its number and zeros

pub record NoInterval (x : IntervalReply) : Type 0 where
  pub none : 21 ≤ x.code → x ≡ guard_interval x.code 0 0 0

no_interval : (n : ℕ) → NoInterval (guard_interval n 0 0 0)
no_interval n = record { none = λ h. refl }

an_interval : (g a b : ℕ) → NoInterval (guard_interval 0 g a b)
an_interval g a b = record { none = λ h. absurd (omega arith) }

module _ (t : List ℕ) (e : ℕ) where
  pub find_interval_refused : NoInterval (found_interval e t)
  find_interval_refused = cond_both NoInterval (eqb (length t) 1280) _ _ (cond_both NoInterval (valid serials t) _ _ (an_interval _ _ _) (no_interval 22)) (no_interval 21)

  pub interval_words_refused : NoInterval (interval_words e t)
  unfolding interval_words
  interval_words_refused = cond_both NoInterval (eqb (length t) 1280) _ _ (an_interval _ _ _) (no_interval 21)

-- ---- the calls without the test of the rules, and making a table fresh

refused : (n : ℕ) (t : List ℕ) → Keeps t (done (reply n 0 0) t)
refused n t = record { kept = λ h. refl }

replied : (a b : ℕ) (t t' : List ℕ) → Keeps t (done (reply 0 a b) t')
replied a b t t' = record { kept = λ h. absurd (omega arith) }

module _ (t : List ℕ) where
  pub fresh_keeps : Keeps t (made_fresh t)
  fresh_keeps = cond_both (Keeps t) (eqb (length t) 1280) _ _ (replied 0 0 t _) (refused 21 t)

  pub install_words_keep : (r : Range) (g : ℕ) → Keeps t (tested (install_words r g) t)
  unfolding install_words
  install_words_keep r g = cond_both (Keeps t) (eqb (length t) 1280) _ _ (cond_both (Keeps t) (bad_range r) _ _ (refused 28 t) (cond_both (Keeps t) (one_tablet (store_of t) r.low r.high) _ _ (replied 1 0 t _) (replied 2 0 t _))) (refused 21 t)

  pub read_words_keep : (e : ℕ) → Keeps t (tested (read_words e) t)
  unfolding read_words
  read_words_keep e = cond_both (Keeps t) (eqb (length t) 1280) _ _ (replied _ _ t _) (refused 21 t)

  pub commit_words_keep : (e v s g : ℕ) → Keeps t (tested (commit_words e v s g) t)
  unfolding commit_words
  commit_words_keep e v s g = cond_both (Keeps t) (eqb (length t) 1280) _ _ (cond_both (Keeps t) (commits (store_of t) e g) _ _ (replied 1 0 t _) (replied 2 0 t _)) (refused 21 t)

  pub split_words_keep : (e : ℕ) → Keeps t (tested (split_words e) t)
  unfolding split_words
  split_words_keep e = cond_both (Keeps t) (eqb (length t) 1280) _ _ (cond_both (Keeps t) (eqb e 0) _ _ (refused 28 t) (cond_both (Keeps t) (eqb (get_or t e 0) 1) _ _ (refused 35 t) (replied 0 0 t _))) (refused 21 t)

  pub merge_words_keep : (e : ℕ) → Keeps t (tested (merge_words e) t)
  unfolding merge_words
  merge_words_keep e = cond_both (Keeps t) (eqb (length t) 1280) _ _ (cond_both (Keeps t) (eqb e 0) _ _ (refused 28 t) (cond_both (Keeps t) (eqb (get_or t e 0) 0) _ _ (refused 35 t) (replied 0 0 t _))) (refused 21 t)

  pub restart_words_keep : (e : ℕ) → Keeps t (tested (restart_words e) t)
  unfolding restart_words
  restart_words_keep e = cond_both (Keeps t) (eqb (length t) 1280) _ _ (replied 0 0 t _) (refused 21 t)
