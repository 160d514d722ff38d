-- A run of a region, filled in place.
-- Assumes nothing.
use mathlib.Core.Path.{sym, ◌∙◌, subst}
use mathlib.Core.List.{List, []}
use Prim.Native.Nat.{ℕ, ◌≤◌}
use native.Mathlib.Omega.{arith}
use lib.Dec.{T, ltb}
use lib.ListN.{length, get_or, set}
use Rattle.players.specs.Regions.{width, offset}
use Rattle.players.proofs.Regions.{Made, made_inside, made_change, width_at}
use Rattle.steps.specs.InnerWords.{filled}
use Rattle.steps.proofs.RunLaws.{run, length-run, filled-region}

module _ {ns : List ℕ} {rs : List (List ℕ)} {t : List ℕ} (m : Made ns rs t) where
  pub made_fill : (k lo hi v : ℕ) → T (ltb k (length ns)) → lo ≤ hi → hi ≤ width ns k → Made ns (set rs k (run lo hi v (get_or rs k []))) (filled (offset ns k) lo hi v t)
  made_fill k lo hi v h a b =
      let e = width_at m.sized k in
      subst (λ (u : List ℕ). Made ns (set rs k (run lo hi v (get_or rs k []))) u) (sym (filled-region (offset ns k) (width ns k) lo hi v t a b (made_inside m k)))
      (made_change m k h (run lo hi v) (length-run lo hi v (get_or rs k []) a (omega arith) ∙ e))
