-- The decimal digits of a number, as the library writes them.
-- Assumes nothing.
use mathlib.Core.Path.{◌≡◌, ◌∙◌, refl, sym}
use mathlib.Core.Bool.{Bool, true, false}
use mathlib.Core.List.{List, [], ◌∷◌, ◌++◌, append_assoc, append-nil}
use Prim.Native.Nat.{ℕ, zero, suc, ◌+◌, ◌/◌, ◌%◌, ◌^◌, ◌<◌}
use native.Mathlib.Omega.{arith}
use native.Mathlib.Nat.{pow-suc}
use lib.Dec.{ltb}
use borrow.Author.Tests.{ltb-true, ltb-false, eq-eqb, ne_eqb, lt-ltb}
use Rattle.std.specs.Fmt.{digits as library_digits, digits_onto, decimal as library_decimal}
use Rattle.session.specs.Listing.{digits, decimal}

-- the digits of a number of at most j, before others, where k are written at most
onto : (j k n : ℕ) (rest : List ℕ) → j < k → n < 10 ^ suc j → digits_onto k 10 false n rest ≡ digits (suc j) n ++ rest
unfolding digits
onto j zero n rest h b = absurd (omega arith)
onto zero (suc k) n rest h b =
    let z : n / 10 ≡ 0 = omega arith in
    let s : n % 10 ≡ n = omega arith in
    rw (eq-eqb (n / 10) 0 z, s, lt-ltb n 10 (omega arith))
onto (suc j) (suc k) n rest h b =
    by (ltb n 10) refl (onto j k (n / 10) ((48 + n % 10) ∷ rest) (omega arith) (omega (arith, pow-suc 10 (suc j))))
  where
    glyph : ltb (n % 10) 10 ≡ true
    glyph = lt-ltb (n % 10) 10 (omega arith)

    by : (t : Bool) → ltb n 10 ≡ t → digits_onto k 10 false (n / 10) ((48 + n % 10) ∷ rest) ≡ digits (suc j) (n / 10) ++ ((48 + n % 10) ∷ rest)
        → digits_onto (suc k) 10 false n rest ≡ digits (suc (suc j)) n ++ rest
    by true e back =
        let l = ltb-true n 10 e in
        let z : n / 10 ≡ 0 = omega arith in
        let s : n % 10 ≡ n = omega arith in
        rw (eq-eqb (n / 10) 0 z, s, e)
    by false e back =
        let l = ltb-false n 10 e in
        rw (glyph, ne_eqb (n / 10) 0 (λ z. omega arith), e) (back ∙ sym (append_assoc (digits (suc j) (n / 10)) ((48 + n % 10) ∷ []) rest))

-- what the library writes of a number of 32 bits
pub library_digits_are : (n : ℕ) → n < 4294967296 → library_decimal n ≡ decimal n
unfolding library_digits
library_digits_are n h = onto 9 64 n [] (omega arith) (omega arith) ∙ append-nil (decimal n)
