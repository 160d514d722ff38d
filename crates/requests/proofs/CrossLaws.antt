-- The pass of a write over the requests.
-- Assumes nothing.
use mathlib.Core.Path.{◌≡◌, refl}
use mathlib.Core.Logic.{⊎_elim}
use mathlib.Core.Bool.{false, cond, ◌&&◌, and-false}
use mathlib.Core.List.{List, [], ◌∷◌, map}
use Prim.Native.Nat.{ℕ}
use native.Mathlib.Omega.{arith}
use borrow.Author.Tests.{ne_eqb, eqb-true}
use lib.Dec.{eqb}
use Rattle.requests.specs.declared.Request.{Request}
use Rattle.requests.specs.Model.{is_guard_request, is_write, by, pending, writing, using_entry, mark_overlapped, any}
use Rattle.requests.proofs.Basics.{decide, neither_left, neither_right}

-- no read or write of the player on the entry is pending: no write is, and nothing is marked
module _ (p e : ℕ) where
  no_write : (r : Request) → using_entry p e r ≡ false → writing p e r ≡ false
  no_write r h =
      ⊎_elim
      (λ t.
      let k = eqb-true r.kind 5 t in
      let g : is_guard_request r ≡ false = ne_eqb r.kind 3 (omega arith) in
      let u : (pending r && (by p r && eqb r.low e)) ≡ false = rw g at h in
      rw t u)
      (λ t. rw t (and-false (pending r)))
      (decide (is_write r))

  pub none_using : (rs : List Request) → any (using_entry p e) rs ≡ false → (any (writing p e) rs ≡ false) × (map (λ r. cond (using_entry p e r) (mark_overlapped r) r) rs ≡ rs)
  none_using [] h = (refl, refl)
  none_using (r ∷ rs) h =
      let a = neither_left (using_entry p e r) (any (using_entry p e) rs) h in
      let b = none_using rs (neither_right (using_entry p e r) (any (using_entry p e) rs) h) in
      (rw (no_write r a, b.0), rw (a, b.1))
