-- A step and its six numbers determine each other.
-- Assumes nothing.
use mathlib.Core.Path.{◌≡◌, ◌∙◌, refl, sym, ap}
use mathlib.Core.Bool.{Bool, true, false, cond, ◌&&◌}
use mathlib.Core.List.{List, [], ◌∷◌}
use Prim.Native.Nat.{ℕ, zero, suc, ◌/◌, ◌<◌}
use native.Mathlib.Omega.{arith}
use lib.ListN.{length, get_or, drop}
use lib.Dec.{eqb}
use borrow.Author.Tests.{eq-eqb, eqb-true}
use Rattle.players.specs.declared.Step.{Step}
use Rattle.players.specs.Kinds.{stands, map_of, in_force, kind_and_fields, kind, step_of, spread, numbers_of, Fits}
use Rattle.players.proofs.StepCases.{known}
use Rattle.players.proofs.KindLaws.{kind_map, fields_made, kind_made, fits_by}
use Rattle.session.specs.Layout.{record_length}
use Rattle.session.specs.Decoded.{Record, Refused as Unread}
use Rattle.session.specs.Records.{unknown_kind, wrong_fields, of_numbers}
use Rattle.session.specs.Fields.{standing, six}
use Rattle.session.proofs.FieldLaws.{count_standing, first_standing}
use Rattle.session.proofs.EncodeLaws.{first_number, standing-spread}
use Rattle.famdrize.specs.Fields.{Stated}
use Rattle.famdrize.specs.Fields.{Taken, Refused}
use Rattle.famdrize.specs.Fields.{others_zero, agree, stated, on_stated}

-- ---- of any map

-- the numbers whose bit does not stand are 0 exactly where the others, spread again, are all the numbers
pub zero-agree : (m : ℕ) (vs : List ℕ) → others_zero m vs ≡ agree vs (spread (length vs) m (standing m vs))
unfolding others_zero agree spread standing
zero-agree m [] = refl
zero-agree m (v ∷ vs) = by_bit (stands m) (zero-agree (m / 2) vs)
  where
    by_bit : (b : Bool) → others_zero (m / 2) vs ≡ agree vs (spread (length vs) (m / 2) (standing (m / 2) vs)) → (
        let us = cond b (v ∷ standing (m / 2) vs) (standing (m / 2) vs) in
        let ws = cond b (get_or us 0 0 ∷ spread (length vs) (m / 2) (drop 1 us)) (0 ∷ spread (length vs) (m / 2) us) in
        cond b (others_zero (m / 2) vs) (eqb v 0 && others_zero (m / 2) vs) ≡ (eqb v (get_or ws 0 0) && agree vs (drop 1 ws))
        )
    by_bit true h = rw (eq-eqb v v refl) h
    by_bit false h = ap (λ (b : Bool). eqb v 0 && b) h

-- and then they are
pub zero-spread : (m : ℕ) (vs : List ℕ) → others_zero m vs ≡ true → spread (length vs) m (standing m vs) ≡ vs
unfolding others_zero spread standing
zero-spread m [] h = refl
zero-spread m (v ∷ vs) h = by_bit (stands m) (zero-spread (m / 2) vs) h
  where
    by_bit : (b : Bool) → (others_zero (m / 2) vs ≡ true → spread (length vs) (m / 2) (standing (m / 2) vs) ≡ vs)
        → cond b (others_zero (m / 2) vs) (eqb v 0 && others_zero (m / 2) vs) ≡ true → (
        let us = cond b (v ∷ standing (m / 2) vs) (standing (m / 2) vs) in
        cond b (get_or us 0 0 ∷ spread (length vs) (m / 2) (drop 1 us)) (0 ∷ spread (length vs) (m / 2) us) ≡ v ∷ vs
        )
    by_bit true back h = ap (λ (l : List ℕ). v ∷ l) (back h)
    by_bit false back h = by_zero (eqb v 0) refl h
      where
        by_zero : (z : Bool) → eqb v 0 ≡ z → (z && others_zero (m / 2) vs) ≡ true → 0 ∷ spread (length vs) (m / 2) (standing (m / 2) vs) ≡ v ∷ vs
        by_zero true e g = rw (eqb-true v 0 e, back g)
        by_zero false e g = absurd (let z : ◌≡◌ {A = ℕ} 0 1 = cc in omega arith)

-- numbers that are spread are 0 elsewhere
spread-zero : (n m : ℕ) (vs : List ℕ) → others_zero m (spread n m vs) ≡ true
unfolding others_zero spread
spread-zero zero m vs = refl
spread-zero (suc n) m vs = by_bit (stands m) refl (spread-zero n (m / 2))
  where
    by_bit : (b : Bool) → stands m ≡ b → ((us : List ℕ) → others_zero (m / 2) (spread n (m / 2) us) ≡ true)
        → others_zero m (cond b (get_or vs 0 0 ∷ spread n (m / 2) (drop 1 vs)) (0 ∷ spread n (m / 2) vs)) ≡ true
    by_bit true e h = rw e (h (drop 1 vs))
    by_bit false e h = rw e (h vs)

-- ---- of a kind

-- the step of a kind has this kind, and the fields that stand
pub record Stands (k p e h v s : ℕ) : Type 0 where
  pub kinds : kind (step_of k (standing (map_of k) (six k p e h v s))) ≡ k
  pub fields : kind_and_fields (step_of k (standing (map_of k) (six k p e h v s))) ≡ standing (map_of k) (six k p e h v s)

module _ (k p e h v s : ℕ) (force : in_force k ≡ true) where
  abbrev vs : List ℕ
  vs = standing (map_of k) (six k p e h v s)

  first : get_or vs 0 0 ≡ k
  first = first_standing (map_of k) k (p ∷ e ∷ h ∷ v ∷ s ∷ []) (kind_map k force).odd

  pub kind-stands : Stands k p e h v s
  kind-stands =
      let n = count_standing (map_of k) (six k p e h v s) in
      record { kinds = kind_made k force vs n first; fields = fields_made k force vs n first }

-- ---- the step of six numbers

module _ (k p e h v s : ℕ) where
  abbrev six_numbers : List ℕ
  six_numbers = six k p e h v s

  -- a kind that is not in force, and one that is
  data Kind : Type 0 where
    none : (n : ℕ) → of_numbers six_numbers ≡ Unread n → stated six_numbers ≡ Refused n → Kind
    one : in_force k ≡ true → of_numbers six_numbers ≡ Record (step_of k (standing (map_of k) six_numbers)) (record_length (map_of k)) → Kind

  kind_of : Kind
  unfolding stated
  kind_of = by (in_force k) refl
    where
      by : (b : Bool) → in_force k ≡ b → Kind
      by true f = one f (rw f)
      by false f = none unknown_kind (rw f) (rw f)

  -- what is read of them: a refusal
  pub stated_refused : (n : ℕ) → of_numbers six_numbers ≡ Unread n → Refused n ≡ stated six_numbers
  stated_refused n is = by kind_of
    where
      by : Kind → Refused n ≡ stated six_numbers
      by (none m q f) = let z : n ≡ m = cc in rw z (sym f)
      by (one force q) = absurd (let z : ◌≡◌ {A = ℕ} 0 1 = cc in omega arith)

  -- or a step, whose numbers are compared with these
  pub stated_by : (x : Step) (n : ℕ) → of_numbers six_numbers ≡ Record x n → (b : Bool) → b ≡ agree six_numbers (numbers_of x) → stated six_numbers ≡ cond b (Taken x) (Refused wrong_fields)
  unfolding stated
  stated_by x n is b f = by kind_of
    where
      by : Kind → stated six_numbers ≡ cond b (Taken x) (Refused wrong_fields)
      by (none m q g) = absurd (let z : ◌≡◌ {A = ℕ} 0 1 = cc in omega arith)
      by (one force q) =
          let a = kind-stands k p e h v s force in
          let made : step_of k (standing (map_of k) six_numbers) ≡ x = cc in
          let same : others_zero (map_of k) six_numbers ≡ agree six_numbers (numbers_of x) = zero-agree (map_of k) six_numbers ∙ rw (← made, a.kinds, a.fields) in
          rw (force, same, f, made)

-- ---- both directions

-- the numbers of a step are those of that step
pub numbers_back : (x : Step) → stated (numbers_of x) ≡ Taken x
unfolding stated
numbers_back x =
    let k = known x in
    let m = map_of (kind x) in
    rw (first_number x, k.force, spread-zero 6 m (kind_and_fields x), standing-spread 6 m (kind_and_fields x) k.fields, k.same)

-- and no others are
pub only_numbers : (k p e h v s : ℕ) (x : Step) → stated (six k p e h v s) ≡ Taken x → numbers_of x ≡ six k p e h v s
unfolding stated
only_numbers k p e h v s x is = by_kind (in_force k) refl is
  where
    by_zero : in_force k ≡ true → (z : Bool) → others_zero (map_of k) (six k p e h v s) ≡ z
        → cond z (Taken (step_of k (standing (map_of k) (six k p e h v s)))) (Refused wrong_fields) ≡ Taken x → numbers_of x ≡ six k p e h v s
    by_zero force true f g =
        let a = kind-stands k p e h v s force in
        let same : step_of k (standing (map_of k) (six k p e h v s)) ≡ x = cc in
        rw (← same, a.kinds, a.fields) (zero-spread (map_of k) (six k p e h v s) f)
    by_zero force false f g = absurd (let z : ◌≡◌ {A = ℕ} 0 1 = cc in omega arith)

    by_kind : (b : Bool) → in_force k ≡ b
        → cond b (cond (others_zero (map_of k) (six k p e h v s)) (Taken (step_of k (standing (map_of k) (six k p e h v s)))) (Refused wrong_fields)) (Refused unknown_kind) ≡ Taken x
        → numbers_of x ≡ six k p e h v s
    by_kind false f taken = absurd (let z : ◌≡◌ {A = ℕ} 0 1 = cc in omega arith)
    by_kind true f taken = by_zero f (others_zero (map_of k) (six k p e h v s)) refl taken

-- ---- the entry of a step is the third of its numbers, so that it fits where that does
pub stated_fits : (k p e h v s : ℕ) (x : Step) → e < 256 → stated (six k p e h v s) ≡ Taken x → Fits x
stated_fits k p e h v s x b is = fits_by x (rw (only_numbers k p e h v s x is) b)

-- ---- by cases

module _ {A : Type 0} (vs : List ℕ) (d : Stated) (is : d ≡ stated vs) (taken : Step → A) (refused : ℕ → A) where
  pub on_taken : (x : Step) → d ≡ Taken x → on_stated (stated vs) taken refused ≡ taken x
  on_taken x h = rw (← is, h)

  pub on_refused : (n : ℕ) → d ≡ Refused n → on_stated (stated vs) taken refused ≡ refused n
  on_refused n h = rw (← is, h)
