-- The tests of a record, one by one: what each refuses, and what is known of a record that passes them all.
-- Assumes nothing.
use mathlib.Core.Path.{◌≡◌, refl, sym}
use mathlib.Core.Bool.{Bool, true, false, cond}
use mathlib.Core.List.{List}
use Prim.Native.Nat.{ℕ, ◌%◌, ◌≤◌, ◌<◌}
use lib.ListN.{length}
use lib.Dec.{ltb, leb, eqb}
use borrow.Author.Tests.{ltb-true, ltb-false, leb-true, leb-false, eqb-true, eqb-false, lt-ltb, le-ltb, le-leb, lt-leb, eq-eqb, ne_eqb}
use Rattle.requests.specs.Answers.{Numbers, refused}
use Rattle.players.specs.Kinds.{stands, map_of, in_force}
use Rattle.session.specs.Layout.{record_length}
use Rattle.session.specs.Decoded.{Decoded, Refused}
use Rattle.session.specs.Records.{cut_short, unknown_field, unknown_kind, wrong_fields, map_at, kind_at, tested, Decodes}

-- whatever is made of it, the tests come to the refusal n
abbrev pub Refuses : List ℕ → ℕ → Type 1
Refuses s n = (A : Type 0) (f : ℕ → A) (x : A) → tested s f x ≡ f n

module _ (s : List ℕ) where
  pub no_byte : length s ≡ 0 → Refuses s cut_short
  unfolding tested
  no_byte h A f x = simp (eq-eqb (length s) 0 h)

  module _ (some : length s ≡ 0 → ⊥) where
    pub high_bit : 64 ≤ map_at s → Refuses s unknown_field
    unfolding tested
    high_bit h A f x = simp (ne_eqb (length s) 0 some, le-leb 64 (map_at s) h)

    module _ (low : map_at s < 64) where
      pub cut : length s < record_length (map_at s) → Refuses s cut_short
      unfolding tested
      cut h A f x = simp (ne_eqb (length s) 0 some, lt-leb 64 (map_at s) low, lt-ltb (length s) (record_length (map_at s)) h)

      module _ (long : record_length (map_at s) ≤ length s) where
        pub no_kind : (map_at s % 2 ≡ 1 → ⊥) → Refuses s wrong_fields
        unfolding tested
        no_kind h A f x =
            simp (ne_eqb (length s) 0 some, lt-leb 64 (map_at s) low, le-ltb (length s) (record_length (map_at s)) long, ne_eqb (map_at s % 2) 1 h)

        module _ (odd : map_at s % 2 ≡ 1) where
          -- past the tests of the map
          on_kind : {A : Type 0} (f : ℕ → A) (x : A)
              → tested s f x ≡ cond (in_force (kind_at s)) (cond (eqb (map_at s) (map_of (kind_at s))) x (f wrong_fields)) (f unknown_kind)
          unfolding tested
          on_kind f x =
              simp (ne_eqb (length s) 0 some, lt-leb 64 (map_at s) low, le-ltb (length s) (record_length (map_at s)) long, eq-eqb (map_at s % 2) 1 odd)

          pub not-in_force : in_force (kind_at s) ≡ false → Refuses s unknown_kind
          not-in_force h A f x = rw (on_kind f x, h)

          module _ (force : in_force (kind_at s) ≡ true) where
            pub other_map : (map_at s ≡ map_of (kind_at s) → ⊥) → Refuses s wrong_fields
            other_map h A f x = rw (on_kind f x, force, ne_eqb (map_at s) (map_of (kind_at s)) h)

            pub passes : map_at s ≡ map_of (kind_at s) → (A : Type 0) (f : ℕ → A) (x : A) → tested s f x ≡ x
            passes h A f x = rw (on_kind f x, force, eq-eqb (map_at s) (map_of (kind_at s)) h)

-- what is known of bytes that pass
pub record Accepted (s : List ℕ) : Type 1 where
  pub some : length s ≡ 0 → ⊥
  pub long : record_length (map_at s) ≤ length s
  pub force : in_force (kind_at s) ≡ true
  pub map : map_at s ≡ map_of (kind_at s)
  pub takes : (A : Type 0) (f : ℕ → A) (x : A) → tested s f x ≡ x

pub accepted : (s : List ℕ) → (length s ≡ 0 → ⊥) → map_at s < 64 → record_length (map_at s) ≤ length s → map_at s % 2 ≡ 1 → in_force (kind_at s) ≡ true
    → map_at s ≡ map_of (kind_at s) → Accepted s
accepted s some low long odd force e = record { some = some; long = long; force = force; map = e; takes = passes s some low long odd force e }

-- either of the two
pub data Outcome (s : List ℕ) : Type 1 where
  refuses : (n : ℕ) → Refuses s n → Outcome s
  accepts : Accepted s → Outcome s

pub outcome : (s : List ℕ) → Outcome s
outcome s = by_length (eqb (length s) 0) refl
  where
    by_map : (length s ≡ 0 → ⊥) → map_at s < 64 → record_length (map_at s) ≤ length s → map_at s % 2 ≡ 1 → in_force (kind_at s) ≡ true
        → (b : Bool) → eqb (map_at s) (map_of (kind_at s)) ≡ b → Outcome s
    by_map some low long odd force true e = accepts (accepted s some low long odd force (eqb-true _ _ e))
    by_map some low long odd force false e = refuses wrong_fields (other_map s some low long odd force (eqb-false _ _ e))

    by_kind : (length s ≡ 0 → ⊥) → map_at s < 64 → record_length (map_at s) ≤ length s → map_at s % 2 ≡ 1 → (b : Bool) → in_force (kind_at s) ≡ b → Outcome s
    by_kind some low long odd true e = by_map some low long odd e (eqb (map_at s) (map_of (kind_at s))) refl
    by_kind some low long odd false e = refuses unknown_kind (not-in_force s some low long odd e)

    by_bit : (length s ≡ 0 → ⊥) → map_at s < 64 → record_length (map_at s) ≤ length s → (b : Bool) → stands (map_at s) ≡ b → Outcome s
    by_bit some low long true e = by_kind some low long (eqb-true _ _ e) (in_force (kind_at s)) refl
    by_bit some low long false e = refuses wrong_fields (no_kind s some low long (eqb-false _ _ e))

    by_size : (length s ≡ 0 → ⊥) → map_at s < 64 → (b : Bool) → ltb (length s) (record_length (map_at s)) ≡ b → Outcome s
    by_size some low true e = refuses cut_short (cut s some low (ltb-true _ _ e))
    by_size some low false e = by_bit some low (ltb-false _ _ e) (stands (map_at s)) refl

    by_bits : (length s ≡ 0 → ⊥) → (b : Bool) → leb 64 (map_at s) ≡ b → Outcome s
    by_bits some true e = refuses unknown_field (high_bit s some (leb-true _ _ e))
    by_bits some false e = by_size some (leb-false _ _ e) (ltb (length s) (record_length (map_at s))) refl

    by_length : (b : Bool) → eqb (length s) 0 ≡ b → Outcome s
    by_length true e = refuses cut_short (no_byte s (eqb-true _ _ e))
    by_length false e = by_bits (eqb-false _ _ e) (leb 64 (map_at s)) refl

-- ---- what a decoder promises

-- a refusal
pub refusal_decodes : (s : List ℕ) (n : ℕ) → Refuses s n → Decodes s (Refused n)
refusal_decodes s n h = record { answer = sym (h Decoded Refused _); numbered = sym (h Numbers refused _) }
