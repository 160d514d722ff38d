-- What holds of each kind in force, shown for all of them together by computing over the table of kinds, so that no list of kinds stands here.
-- Assumes nothing.
use mathlib.Core.Path.{◌≡◌, ◌∙◌, refl, sym, ap}
use mathlib.Core.Logic.{⊎_elim}
use mathlib.Core.Bool.{Bool, true, false, true≢false, ◌&&◌}
use mathlib.Core.List.{List, [], ◌∷◌}
use Prim.Native.Nat.{ℕ, zero, suc, ◌+◌, ◌/◌, ◌%◌, ◌≤◌, ◌<◌}
use native.Mathlib.Omega.{arith}
use lib.Dec.{ltb, leb, eqb}
use lib.ListN.{length, get_or, take, get_or-eq_default}
use borrow.Author.Tests.{ltb-true, ltb-false, leb-true, eqb-true, eqb-false, ne_eqb}
use Rattle.requests.proofs.Basics.{decide, both_left, both_right}
use Rattle.players.specs.declared.Step.{Step}
use Rattle.players.specs.Kinds.{stands, maps, last_kind, map_of, in_force, kind_and_fields, kind, step_of, numbers_of, ByteOrAny, Fits}
use Rattle.players.proofs.StepCases.{bits}

-- ---- from a list to each of its places

-- f of each of the n numbers from i on
abbrev row : {A : Type 0} → (ℕ → A) → ℕ → ℕ → List A
row f i zero = []
row f i (suc n) = f i ∷ row f (suc i) n

-- two functions whose rows are the same are the same at each of its places
at_each : {A : Type 0} (f g : ℕ → A) (i n : ℕ) → row f i n ≡ row g i n → (k : ℕ) → i ≤ k → k < i + n → f k ≡ g k
at_each f g i zero e k a b = absurd (omega arith)
at_each f g i (suc n) e k a b =
    ⊎_elim (λ t. let z : k ≡ i = eqb-true k i t in rw z (let h : f i ≡ g i = cc in h))
    (λ t. let z = eqb-false k i t in at_each f g (suc i) n (let h : row f (suc i) n ≡ row g (suc i) n = cc in h) k (omega arith) (omega arith))
    (decide (eqb k i))

-- ---- which are in force: those from 1 to the last

pub has_map : (k : ℕ) → (map_of k ≡ 0 → ⊥) → in_force k ≡ true
has_map k h = rw (ne_eqb (map_of k) 0 h)

pub no_map : (k : ℕ) → map_of k ≡ 0 → in_force k ≡ false
no_map k e = rw e

pub as_many_maps : length maps ≡ suc last_kind
as_many_maps = refl

all_in_force : row in_force 1 last_kind ≡ row (λ k. true) 1 last_kind
unfolding map_of
all_in_force = refl

pub known_in_force : (k : ℕ) → 1 ≤ k → k ≤ last_kind → in_force k ≡ true
known_in_force k from to = at_each in_force (λ k. true) 1 last_kind all_in_force k from (omega arith)

-- above the last there is no map
pub none_above : (k : ℕ) → last_kind < k → map_of k ≡ 0
unfolding map_of
none_above k h = get_or-eq_default maps 0 h

not-zero : (k : ℕ) → in_force k ≡ true → 1 ≤ k
unfolding map_of
not-zero zero h = absurd (true≢false (sym h))
not-zero (suc k) h = omega arith

not_above : (k : ℕ) → in_force k ≡ true → k ≤ last_kind
not_above k h =
    ⊎_elim (λ t. absurd (true≢false (sym h ∙ no_map k (none_above k (ltb-true last_kind k t)))))
    (λ t. ltb-false last_kind k t)
    (decide (ltb last_kind k))

pub in_force_range : (k : ℕ) → in_force k ≡ true → (1 ≤ k) × (k ≤ last_kind)
in_force_range k h = (not-zero k h, not_above k h)

-- two functions whose rows are the same for them are the same for each
each_kind : {A : Type 0} (f g : ℕ → A) → row f 1 last_kind ≡ row g 1 last_kind → (k : ℕ) → in_force k ≡ true → f k ≡ g k
each_kind f g e k h = at_each f g 1 last_kind e k (not-zero k h) (omega (arith, not_above k h))

-- ---- maps

-- its map has bit 0, and neither bit 6 nor bit 7; three fields beside the kind at most
pub record Map (m : ℕ) : Type 0 where
  pub low : m < 64
  pub odd : m % 2 ≡ 1
  pub few : bits 6 m ≤ 4

abbrev good : ℕ → Bool
good k = ltb (map_of k) 64 && (stands (map_of k) && leb (bits 6 (map_of k)) 4)

all_good : row good 1 last_kind ≡ row (λ k. true) 1 last_kind
unfolding map_of
all_good = refl

pub kind_map : (k : ℕ) → in_force k ≡ true → Map (map_of k)
kind_map k force =
    let m = map_of k in
    let t : good k ≡ true = each_kind good (λ k. true) all_good k force in
    let u = both_right (ltb m 64) (stands m && leb (bits 6 m) 4) t in
    record {
      low = ltb-true m 64 (both_left (ltb m 64) (stands m && leb (bits 6 m) 4) t);
      odd = eqb-true (m % 2) 1 (both_left (stands m) (leb (bits 6 m) 4) u);
      few = leb-true (bits 6 m) 4 (both_right (stands m) (leb (bits 6 m) 4) u);
    }

-- ---- steps

-- the step of a kind, whatever its fields, has this kind and them
all_fields : (a b c : ℕ) → row (λ k. kind_and_fields (step_of k (k ∷ a ∷ b ∷ c ∷ []))) 1 last_kind ≡ row (λ k. take (bits 6 (map_of k)) (k ∷ a ∷ b ∷ c ∷ [])) 1 last_kind
unfolding map_of step_of
all_fields a b c = refl

four : (vs : List ℕ) → length vs ≤ 4 → take (length vs) (get_or vs 0 0 ∷ get_or vs 1 0 ∷ get_or vs 2 0 ∷ get_or vs 3 0 ∷ []) ≡ vs
four [] h = refl
four (a ∷ []) h = refl
four (a ∷ b ∷ []) h = refl
four (a ∷ b ∷ c ∷ []) h = refl
four (a ∷ b ∷ c ∷ d ∷ []) h = refl
four (a ∷ b ∷ c ∷ d ∷ e ∷ vs) h = absurd (omega arith)

-- the step of a kind looks at no more than four numbers
first_four : (k : ℕ) (vs : List ℕ) → step_of k vs ≡ step_of k (k ∷ get_or vs 1 0 ∷ get_or vs 2 0 ∷ get_or vs 3 0 ∷ [])
unfolding step_of
first_four k vs = refl

module _ (k : ℕ) (force : in_force k ≡ true) (vs : List ℕ) (n : length vs ≡ bits 6 (map_of k)) (h : get_or vs 0 0 ≡ k) where
  pub fields_made : kind_and_fields (step_of k vs) ≡ vs
  fields_made =
      let few = (kind_map k force).few in
      let a = get_or vs 1 0 in
      let b = get_or vs 2 0 in
      let c = get_or vs 3 0 in
      ap kind_and_fields (first_four k vs)
      ∙ each_kind (λ i. kind_and_fields (step_of i (i ∷ a ∷ b ∷ c ∷ []))) (λ i. take (bits 6 (map_of i)) (i ∷ a ∷ b ∷ c ∷ [])) (all_fields a b c) k force
      ∙ ap (λ i. take i (k ∷ a ∷ b ∷ c ∷ [])) (sym n)
      ∙ ap (λ i. take (length vs) (i ∷ a ∷ b ∷ c ∷ [])) (sym h)
      ∙ four vs (omega arith)

  pub kind_made : kind (step_of k vs) ≡ k
  kind_made = ap (λ l. get_or l 0 0) fields_made ∙ h

-- ---- widths

-- the third of a step's numbers is its entry, so that the entry fits where that does
pub fits_by : (x : Step) → get_or (numbers_of x) 2 0 < 256 → Fits x
fits_by x h = by_range (stands (map_of (kind x) / 8))
  where
    by_range : (b : Bool) → ByteOrAny b (get_or (numbers_of x) 2 0)
    by_range true = tt
    by_range false = h
