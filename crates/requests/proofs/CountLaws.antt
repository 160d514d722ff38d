-- Requests counted by player: the counts are those of the shares.
-- Assumes nothing.
use Rattle.std.proofs.Common.{◌≡◌, refl, ap, ℕ, zero, suc, ◌≤◌, List, [], ◌∷◌, length, arith}
use Rattle.std.specs.Prelude.{Bool, true, false, ◌&&◌, ◌||◌, leb}
use Rattle.std.proofs.lemmas.Grind.{common_steps}
use borrow.Author.Tests.{leb-false}
use Rattle.requests.specs.declared.Request.{Request}
use Rattle.requests.specs.Model.{loader}
use Rattle.requests.specs.Shares.{own_places, common_places, count_by, common, common_used, turned_away, no_place, counted, count_in}

-- a count is at most the number of requests
pub count_most : (p : ℕ) (rs : List Request) → count_by p rs ≤ length rs
count_most p [] = omega arith
count_most p (r ∷ rs) = grind (arith, common_steps, count_most p rs)

-- the counts that are read are those of the requests
pub count_is : (rs : List Request) (p : ℕ) → p ≤ loader → count_in (counted rs) p ≡ count_by p rs
count_is rs zero h = refl
count_is rs (suc zero) h = refl
count_is rs (suc (suc zero)) h = refl
count_is rs (suc (suc (suc zero))) h = refl
count_is rs (suc (suc (suc (suc zero)))) h = refl
count_is rs (suc (suc (suc (suc (suc zero))))) h = refl
count_is rs (suc (suc (suc (suc (suc (suc zero)))))) h = refl
count_is rs (suc (suc (suc (suc (suc (suc (suc zero))))))) h = refl
count_is rs (suc (suc (suc (suc (suc (suc (suc (suc zero)))))))) h = refl
count_is rs (suc (suc (suc (suc (suc (suc (suc (suc (suc p))))))))) h = absurd (omega arith)

-- the common places in use are told by the counts
pub common-counted : (rs : List Request) → common (count_in (counted rs)) ≡ common_used rs
common-counted rs = refl

-- no count is more than the requests are, so that each fits its byte
pub counted_most : (rs : List Request) (p : ℕ) → count_in (counted rs) p ≤ length rs
counted_most rs zero = count_most 0 rs
counted_most rs (suc zero) = count_most 1 rs
counted_most rs (suc (suc zero)) = count_most 2 rs
counted_most rs (suc (suc (suc zero))) = count_most 3 rs
counted_most rs (suc (suc (suc (suc zero)))) = count_most 4 rs
counted_most rs (suc (suc (suc (suc (suc zero))))) = count_most 5 rs
counted_most rs (suc (suc (suc (suc (suc (suc zero)))))) = count_most 6 rs
counted_most rs (suc (suc (suc (suc (suc (suc (suc zero))))))) = count_most 7 rs
counted_most rs (suc (suc (suc (suc (suc (suc (suc (suc zero)))))))) = count_most 8 rs
counted_most rs (suc (suc (suc (suc (suc (suc (suc (suc (suc p))))))))) = omega arith

pub turned_counted : (rs : List Request) (p : ℕ) → turned_away (count_in (counted rs)) p ≡ no_place p rs
turned_counted rs p = go (leb loader p) refl
  where
    go : (b : Bool) → leb loader p ≡ b
        → ((b || leb own_places (count_in (counted rs) p)) && leb common_places (common (count_in (counted rs)))) ≡ ((b || leb own_places (count_by p rs)) && leb common_places (common_used rs))
    go true t = refl
    go false t = ap (λ n. leb own_places n && leb common_places (common_used rs)) (count_is rs p (let h = leb-false loader p t in omega arith))
