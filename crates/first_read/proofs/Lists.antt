-- The part of a list of requests that a test keeps, once the list is changed.
-- Assumes nothing.
use mathlib.Core.Path.{◌≡◌, refl, ap, sym}
use mathlib.Core.Bool.{Bool, true, false, cond, ◌&&◌}
use mathlib.Core.List.{List, [], ◌∷◌, ◌++◌, map}
use Prim.Native.Nat.{ℕ}
use Rattle.requests.specs.declared.Request.{Request}
use Rattle.requests.specs.Model.{any, keep, find, by}
use Rattle.requests.specs.Shares.{count_by}
use Rattle.linearizable.proofs.Tests.{clash}
use Rattle.linearizable.proofs.RequestLists.{In, here, there}

pub none_any : (f : Request → Bool) (rs : List Request) → ((r : Request) → In r rs → f r ≡ false) → any f rs ≡ false
none_any f [] t = refl
none_any f (r ∷ rs) t = rw (t r here) (none_any f rs (λ q i. t q (there i)))

module _ (f : Request → Bool) where
  -- where the list is kept by another test that passes those
  pub keep-keep : (h : Request → Bool) (rs : List Request) → ((r : Request) → In r rs → f r ≡ true → h r ≡ true) → keep f (keep h rs) ≡ keep f rs
  keep-keep h [] t = refl
  keep-keep h (r ∷ rs) t = one (h r) (f r) refl refl (keep-keep h rs (λ q i. t q (there i)))
    where
      one : (a b : Bool) → h r ≡ a → f r ≡ b → keep f (keep h rs) ≡ keep f rs → keep f (cond a (r ∷ keep h rs) (keep h rs)) ≡ cond b (r ∷ keep f rs) (keep f rs)
      one true true p q ih = rw q (ap (λ l. r ∷ l) ih)
      one true false p q ih = rw q ih
      one false true p q ih = clash (t r here q) p
      one false false p q ih = ih

  -- where a change leaves those as they are, and makes no other one of them
  pub keep_same : (k : Request → Request) (rs : List Request) → ((r : Request) → In r rs → (f (k r) ≡ f r) × (f r ≡ true → k r ≡ r)) → keep f (map k rs) ≡ keep f rs
  keep_same k [] t = refl
  keep_same k (r ∷ rs) t = rw (t r here).0 (one (f r) refl (keep_same k rs (λ q i. t q (there i))))
    where
      one : (b : Bool) → f r ≡ b → keep f (map k rs) ≡ keep f rs → cond b (k r ∷ keep f (map k rs)) (keep f (map k rs)) ≡ cond b (r ∷ keep f rs) (keep f rs)
      one true q ih = rw ((t r here).1 q) (ap (λ l. r ∷ l) ih)
      one false q ih = ih

  -- where a change is made to those alone
  pub keep_changed : (g : Request → Bool) (k : Request → Request) (rs : List Request) → ((r : Request) → f (k r) ≡ f r) → ((r : Request) → In r rs → f r ≡ g r) → keep f (map (λ r. cond (g r) (k r) r) rs) ≡ map k (keep f rs)
  keep_changed g k [] h t = refl
  keep_changed g k (r ∷ rs) h t = rw (sym (t r here)) (one (f r) refl (keep_changed g k rs h (λ q i. t q (there i))))
    where
      one : (b : Bool) → f r ≡ b → keep f (map (λ q. cond (g q) (k q) q) rs) ≡ map k (keep f rs) → keep f (cond b (k r) r ∷ map (λ q. cond (g q) (k q) q) rs) ≡ map k (cond b (r ∷ keep f rs) (keep f rs))
      one true q ih = let z = h r in rw (z, q) (ap (λ l. k r ∷ l) ih)
      one false q ih = rw q ih

  pub keep-append : (rs : List Request) (q : Request) → keep f (rs ++ (q ∷ [])) ≡ keep f rs ++ cond (f q) (q ∷ []) []
  keep-append [] q = refl
  keep-append (r ∷ rs) q = one (f r) (keep-append rs q)
    where
      one : (b : Bool) → keep f (rs ++ (q ∷ [])) ≡ keep f rs ++ cond (f q) (q ∷ []) [] → cond b (r ∷ keep f (rs ++ (q ∷ []))) (keep f (rs ++ (q ∷ []))) ≡ cond b (r ∷ keep f rs) (keep f rs) ++ cond (f q) (q ∷ []) []
      one true ih = ap (λ m. r ∷ m) ih
      one false ih = ih

  pub keep_nothing : (rs : List Request) → ((r : Request) → In r rs → f r ≡ false) → keep f rs ≡ []
  keep_nothing [] t = refl
  keep_nothing (r ∷ rs) t = rw (t r here) (keep_nothing rs (λ q i. t q (there i)))

  -- a search among those, where the tests agree
  pub find_kept : {A : Type 0} (g h : Request → Bool) (rs : List Request) (none : A) (some : Request → A) → ((r : Request) → In r rs → f r ≡ g r) → find (λ r. g r && h r) rs none some ≡ find h (keep f rs) none some
  find_kept {A} g h [] none some t = refl
  find_kept {A} g h (r ∷ rs) none some t = rw (sym (t r here)) (one (f r) (find_kept g h rs none some (λ q i. t q (there i))))
    where
      one : (b : Bool) → find (λ q. g q && h q) rs none some ≡ find h (keep f rs) none some → cond (b && h r) (some r) (find (λ q. g q && h q) rs none some) ≡ find h (cond b (r ∷ keep f rs) (keep f rs)) none some
      one true ih = ap (λ y. cond (h r) (some r) y) ih
      one false ih = ih

-- a player of whom nothing is kept has no request
pub none_counted : (p : ℕ) (rs : List Request) → ((r : Request) → In r rs → by p r ≡ false) → count_by p rs ≡ 0
none_counted p [] t = refl
none_counted p (r ∷ rs) t = rw (t r here) (none_counted p rs (λ q i. t q (there i)))
