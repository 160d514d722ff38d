-- What a guard request that is set, and a tablet restart, do to the store.
-- Assumes nothing.
use mathlib.Core.Path.{◌≡◌, refl, ap}
use mathlib.Core.Logic.{◌⊎◌, inl, inr}
use mathlib.Core.Bool.{true, cond}
use Prim.Native.Nat.{ℕ, ◌-◌}
use Rattle.store.specs.Model.{Store, barred, guarded, restarted, tablet_end, tablet_first, within}
use Rattle.store.proofs.Bools.{cond_both}

-- versions and values stay, and so do guards, but for some that become g
pub record GuardsChanged (st t : Store) (g : ℕ) : Type 0 where
  pub version : t.version ≡ st.version
  pub value : t.value ≡ st.value
  pub guard : (e : ℕ) → (t.guard e ≡ st.guard e) ⊎ (t.guard e ≡ g)

-- a guard set over a range
pub guard_set : (st : Store) (lo hi g : ℕ) → GuardsChanged st (guarded st lo hi g) g
guard_set st lo hi g =
    record { version = refl; value = refl; guard = λ e. cond_both (λ (x : ℕ). (x ≡ st.guard e) ⊎ (x ≡ g)) (within lo hi e) g (st.guard e) (inr refl) (inl refl) }

-- there it is the entry's
pub set_inside : (st : Store) (lo hi g e : ℕ) → within lo hi e ≡ true → (guarded st lo hi g).guard e ≡ g
set_inside st lo hi g e w = ap (λ b. cond b g (st.guard e)) w

-- the tablet that holds an entry restarts
pub restart : (st : Store) (x : ℕ) → GuardsChanged st (restarted st x) barred
restart st x = guard_set st (tablet_first st.boundary x) (tablet_end st.boundary x (255 - x)) barred

-- each of its entries is barred
pub restart_inside : (st : Store) (x e : ℕ) → within (tablet_first st.boundary x) (tablet_end st.boundary x (255 - x)) e ≡ true → (restarted st x).guard e ≡ barred
restart_inside st x e w = set_inside st (tablet_first st.boundary x) (tablet_end st.boundary x (255 - x)) barred e w
