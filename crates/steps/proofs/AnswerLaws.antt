-- What an answer tells of the test that gave it: of a player, of a range, of the next serial, of a request that is named.
-- Assumes nothing.
use mathlib.Core.Path.{◌≡◌, refl, sym, ap, subst, ◌∙◌}
use mathlib.Core.Bool.{Bool, true, false, cond, not, ◌&&◌}
use mathlib.Core.List.{List}
use Prim.Native.Nat.{ℕ, ◌+◌, ◌≤◌, ◌<◌}
use lib.Dec.{leb, ltb}
use lib.ListN.{get_or, take, drop}
use borrow.Author.Tests.{leb-true, leb-false, ltb-true}
use Rattle.std.specs.Prelude.{Result as Outcome, Ok, Err, Option, Some, None, ok_or}
use Rattle.store.specs.Model.{bad_range}
use Rattle.store.specs.Refusals.{number_of}
use Rattle.store.specs.Answers.{entries_of}
use Rattle.store.specs.declared.Range.{Range}
use Rattle.store.specs.declared.refusal.Refusal.{Refusal}
use Rattle.store.specs.declared.refusal.Refusal.TheVariants.{OutOfRange, NoSerialLeft, NoPlaceLeft, NoSuchRequest}
use Rattle.store.proofs.Refusals.{number_of-positive}
use Rattle.requests.proofs.Basics.{both_left, both_right}
use Rattle.requests.specs.declared.Fit.{Fit}
use Rattle.requests.specs.declared.Found.{Found}
use Rattle.requests.specs.Shares.{turned_away, count_in}
use Rattle.requests.specs.Calls.{At, Nowhere, found}
use Rattle.players.specs.Arguments.{player_of}
use Rattle.steps.specs.InnerWords.{next_serial, next_request, requested}

-- ---- one test

module _ {A : Type 0} where
  abbrev code : Outcome A Refusal → ℕ
  code (Ok _) = 0
  code (Err e) = number_of e

  abbrev value : A → Outcome A Refusal → A
  value d (Ok x) = x
  value d (Err _) = d

  pub tested_ok : (b : Bool) (e : Refusal) (r : Outcome A Refusal) (x : A) → cond b (Err e) r ≡ Ok x → (b ≡ false) × (r ≡ Ok x)
  tested_ok true e r x h = absurd (number_of-positive e (ap code h))
  tested_ok false e r x h = (refl, h)

  pub given_ok : (a x : A) → ◌≡◌ {A = Outcome A Refusal} (Ok a) (Ok x) → x ≡ a
  given_ok a x h = sym (ap (value a) h)

  pub tested_err : (b : Bool) (e x : Refusal) (a : A) → cond b (Err e) (Ok a) ≡ Err x → (b ≡ true) × (number_of x ≡ number_of e)
  tested_err true e x a h = (refl, sym (ap code h))
  tested_err false e x a h = absurd (number_of-positive x (sym (ap code h)))

-- ---- a player

module _ (p : ℕ) where
  pub no_player : (x : Refusal) → player_of p ≡ Err x → (7 < p) × (number_of x ≡ 28)
  no_player x h =
      let e = tested_err (leb 8 p) OutOfRange x p h in
      (leb-true 8 p e.0, e.1)

  pub a_player : (q : ℕ) → player_of p ≡ Ok q → (q ≡ p) × (p < 8)
  a_player q h =
      let e = tested_ok (leb 8 p) OutOfRange (Ok p) q h in
      (given_ok p q e.1, leb-false 8 p e.0)

-- ---- a range

not-not : (b : Bool) → not (not b) ≡ b
not-not true = refl
not-not false = refl

module _ (g : Range) where
  pub bad_entries : (x : Refusal) → entries_of g ≡ Err x → (bad_range g ≡ true) × (number_of x ≡ 28)
  bad_entries x h = tested_err (bad_range g) OutOfRange x g h

  pub good_entries : (e : Range) → entries_of g ≡ Ok e → (e ≡ g) × (g.low < g.high) × (g.high ≤ 256)
  good_entries e h =
      let t = tested_ok (bad_range g) OutOfRange (Ok g) e h in
      let a : (ltb g.low g.high && leb g.high 256) ≡ true = sym (not-not (ltb g.low g.high && leb g.high 256)) ∙ ap not t.0 in
      (given_ok g e t.1, ltb-true g.low g.high (both_left (ltb g.low g.high) (leb g.high 256) a), leb-true g.high 256 (both_right (ltb g.low g.high) (leb g.high 256) a))

-- ---- the next serial

module _ (t : List ℕ) where
  pub no_serial : (x : Refusal) → next_serial t ≡ Err x → (4000000 ≤ get_or t 0 0) × (number_of x ≡ 34)
  no_serial x h =
      let e = tested_err (leb 4000000 (get_or t 0 0)) NoSerialLeft x (get_or t 0 0 + 1) h in
      (leb-true 4000000 (get_or t 0 0) e.0, e.1)

  pub a_serial : (n : ℕ) → next_serial t ≡ Ok n → (get_or t 0 0 < 4000000) × (n ≡ get_or t 0 0 + 1)
  a_serial n h =
      let e = tested_ok (leb 4000000 (get_or t 0 0)) NoSerialLeft (Ok (get_or t 0 0 + 1)) n h in
      (leb-false 4000000 (get_or t 0 0) e.0, given_ok (get_or t 0 0 + 1) n e.1)

  module _ (counts : List ℕ) (p : ℕ) where
    -- refused for want of a place, or of a serial
    pub no_request : (P : ℕ → Type 0) (x : Refusal) → next_request counts p t ≡ Err x → (turned_away (count_in counts) p ≡ true → P 38)
        → (turned_away (count_in counts) p ≡ false → 4000000 ≤ get_or t 0 0 → P 34) → P (number_of x)
    no_request P x h full spent = by (turned_away (count_in counts) p) h full spent
      where
        by : (b : Bool) → cond b (Err NoPlaceLeft) (next_serial t) ≡ Err x → (b ≡ true → P 38) → (b ≡ false → 4000000 ≤ get_or t 0 0 → P 34) → P (number_of x)
        by true h f s = subst P (ap code h) (f refl)
        by false h f s =
            let e = no_serial x h in
            subst P (sym e.1) (s refl e.0)

    pub a_request : (n : ℕ) → next_request counts p t ≡ Ok n → (false ≡ turned_away (count_in counts) p) × (get_or t 0 0 < 4000000) × (n ≡ get_or t 0 0 + 1)
    a_request n h =
        let e = tested_ok (turned_away (count_in counts) p) NoPlaceLeft (next_serial t) n h in
        let s = a_serial n e.1 in
        (sym e.0, s.0, s.1)

  -- ---- a request that is named

  module _ (f : Fit) (n : ℕ) where
    pub no_such : (x : Refusal) → requested f n t ≡ Err x → (Nowhere ≡ found f n (take 768 (drop 8705 t))) × (number_of x ≡ 32)
    no_such x h = by (found f n (take 768 (drop 8705 t))) h
      where
        by : (o : Option Found) → ok_or o NoSuchRequest ≡ Err x → (Nowhere ≡ o) × (number_of x ≡ 32)
        by None h = (refl, sym (ap code h))
        by (Some y) h = absurd (number_of-positive x (sym (ap code h)))

    pub such : (y : Found) → requested f n t ≡ Ok y → At y.place y.request ≡ found f n (take 768 (drop 8705 t))
    such y h = by (found f n (take 768 (drop 8705 t))) h
      where
        by : (o : Option Found) → ok_or o NoSuchRequest ≡ Ok y → At y.place y.request ≡ o
        by None h = absurd (number_of-positive NoSuchRequest (ap code h))
        by (Some z) h = ap Some (given_ok z y h)
