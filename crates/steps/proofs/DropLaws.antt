-- Each guard of a player that is g cleared, by a walk over its cells.
-- Assumes nothing.
use mathlib.Core.Path.{◌≡◌, refl, sym, ap, ◌∙◌}
use mathlib.Core.Logic.{⊎_elim}
use mathlib.Core.Bool.{Bool, true, false, cond, ◌&&◌, and-false}
use Prim.Native.Nat.{ℕ, zero, suc, ◌+◌, ◌*◌, ◌≤◌, ◌<◌}
use native.Mathlib.Nat.{add-zero, add-suc}
use native.Mathlib.Omega.{arith}
use lib.Dec.{leb, ltb, eqb}
use lib.ListN.{get_or, set}
use borrow.Author.Tests.{eq-eqb, ne_eqb, eqb-true, eqb-false, leb-true, leb-false, ltb-true, ltb-false}
use Rattle.store.specs.Model.{within, put}
use Rattle.requests.proofs.Basics.{decide, passed_over}
use Rattle.players.specs.Rules.{Cached, empty, Player, State, with_players, cleared_of, drop_guard}
use Rattle.players.specs.Table.{the_held, the_guards, the_versions, the_values, cells, table_of}
use Rattle.players.proofs.Regions.{made_set}
use Rattle.players.proofs.Tables.{made_of}
use Rattle.steps.specs.InnerWords.{caching, dropped}
use Rattle.steps.proofs.RunLaws.{within_in, within_below, within_above, same_cells, set-cells, put_part}
use Rattle.steps.proofs.StateLaws.{held_word, field_cond}

-- tables are the same where what the players have is
pub same_players : (s : State) (f g : ℕ → Player) → ((q x : ℕ) → q < 8 → x < 256 → (f q).held x ≡ (g q).held x) → ((q x : ℕ) → q < 8 → x < 256 → (f q).cached x ≡ (g q).cached x) → table_of (with_players s f) ≡ table_of (with_players s g)
unfolding table_of
same_players s f g h c =
    rw (
      same_cells (λ q x. (f q).held x) (λ q x. (g q).held x) h,
      same_cells (λ q x. ((f q).cached x).guard) (λ q x. ((g q).cached x).guard) (λ q x a b. ap (λ (d : Cached). d.guard) (c q x a b)),
      same_cells (λ q x. ((f q).cached x).version) (λ q x. ((g q).cached x).version) (λ q x a b. ap (λ (d : Cached). d.version) (c q x a b)),
      same_cells (λ q x. ((f q).cached x).value) (λ q x. ((g q).cached x).value) (λ q x a b. ap (λ (d : Cached). d.value) (c q x a b)),
    )

-- ---- one cell

-- the cell of player p and entry e cleared
abbrev at_cell : (ℕ → Player) → ℕ → ℕ → ℕ → Player
at_cell f p e q = record { held = λ x. cond (eqb q p && eqb x e) 0 ((f q).held x); cached = λ x. cond (eqb q p && eqb x e) empty ((f q).cached x) }

module _ (s : State) (f : ℕ → Player) (p e : ℕ) (hp : p < 8) (he : e < 256) where
  cached_cell : (F : Cached → ℕ) → F empty ≡ 0 → set (cells (λ q x. F ((f q).cached x))) (p * 256 + e) 0 ≡ cells (λ q x. F ((at_cell f p e q).cached x))
  cached_cell F z =
      set-cells (λ q x. F ((f q).cached x)) p e 0 hp he
      ∙ same_cells _ _ (λ q x _ _. ap (λ (v : ℕ). cond (eqb q p && eqb x e) v (F ((f q).cached x))) (sym z) ∙ sym (field_cond F (eqb q p && eqb x e) empty ((f q).cached x)))

  cell_cleared : caching (p * 256 + e) 0 0 0 (set (table_of (with_players s f)) (513 + (p * 256 + e)) 0) ≡ table_of (with_players s (at_cell f p e))
  unfolding caching table_of
  cell_cleared =
      let i : ℕ = p * 256 + e in
      let h : i < 2048 = omega arith in
      let m₁ = made_set (made_of (with_players s f)) the_held i 0 tt h in
      let m₂ = made_set m₁ the_guards i 0 tt h in
      let m₃ = made_set m₂ the_versions i 0 tt h in
      let m₄ = made_set m₃ the_values i 0 tt h in
      m₄.is
      ∙ rw (set-cells (λ q x. (f q).held x) p e 0 hp he, cached_cell (λ c. c.guard) refl, cached_cell (λ c. c.version) refl, cached_cell (λ c. c.value) refl)

-- ---- the walk

-- the cell is player p's, its entry one of the n from e on, and its guard g
abbrev wiped_test : (ℕ → Player) → ℕ → ℕ → ℕ → ℕ → ℕ → ℕ → Bool
wiped_test f p g e n q x = eqb q p && (within e (e + n) x && eqb ((f p).held x) g)

-- those cells cleared
abbrev wiped : (ℕ → Player) → ℕ → ℕ → ℕ → ℕ → ℕ → Player
wiped f p g e n q = record { held = λ x. cond (wiped_test f p g e n q x) 0 ((f q).held x); cached = λ x. cond (wiped_test f p g e n q x) empty ((f q).cached x) }

-- an entry after the first
within_later : (e n x : ℕ) → (x ≡ e → ⊥) → within (suc e) (suc e + n) x ≡ within e (e + suc n) x
within_later e n x h =
    ⊎_elim
    (λ b.
    let j = leb-true (suc e) x b in
    ⊎_elim
    (λ c. let k = ltb-true x (suc e + n) c in within_in (suc e) (suc e + n) x j k ∙ sym (within_in e (e + suc n) x (omega arith) (omega arith)))
    (λ c. let k = ltb-false x (suc e + n) c in within_above (suc e) (suc e + n) x k ∙ sym (within_above e (e + suc n) x (omega arith)))
    (decide (ltb x (suc e + n))))
    (λ b. let j = leb-false (suc e) x b in within_below (suc e) (suc e + n) x j ∙ sym (within_below e (e + suc n) x (omega arith)))
    (decide (leb (suc e) x))

-- two choices in one
pick : {A : Type 0} (a b c d : Bool) (v h : A) → (b ≡ true → d ≡ true) → (b ≡ false → c ≡ d) → cond (a && c) v (cond (a && b) v h) ≡ cond (a && d) v h
pick true true true d v h y z = rw (y refl)
pick true true false d v h y z = rw (y refl)
pick true false c d v h y z = rw (z refl)
pick false b c d v h y z = refl

module _ (f : ℕ → Player) (p g e n : ℕ) where
  -- the first cell is cleared
  test_hit : {A : Type 0} → (f p).held e ≡ g → (q x : ℕ) (v h : A) → cond (wiped_test (at_cell f p e) p g (suc e) n q x) v (cond (eqb q p && eqb x e) v h) ≡ cond (wiped_test f p g e (suc n) q x) v h
  test_hit y q x v h =
      pick (eqb q p) (eqb x e) _ (within e (e + suc n) x && eqb ((f p).held x) g) v h
      (λ b. let z : x ≡ e = eqb-true x e b in rw z (rw (within_in e (e + suc n) e (omega arith) (omega arith), eq-eqb ((f p).held e) g y)))
      (λ b.
      let z : (eqb p p && eqb x e) ≡ false = ap (λ (c : Bool). eqb p p && c) b ∙ and-false (eqb p p) in
      ap (λ (c : Bool). within (suc e) (suc e + n) x && eqb (cond c 0 ((f p).held x)) g) z ∙ ap (λ (c : Bool). c && eqb ((f p).held x) g) (within_later e n x (eqb-false x e b)))

  -- it is not
  test_miss : ((f p).held e ≡ g → ⊥) → (q x : ℕ) → wiped_test f p g (suc e) n q x ≡ wiped_test f p g e (suc n) q x
  test_miss y q x =
      ⊎_elim
      (λ b.
      let z : x ≡ e = eqb-true x e b in
      rw z (rw (ne_eqb ((f p).held e) g y, and-false (within (suc e) (suc e + n) e), and-false (within e (e + suc n) e))))
      (λ b. rw (within_later e n x (eqb-false x e b)))
      (decide (eqb x e))

  -- no cell is left
  test_none : (q x : ℕ) → wiped_test f p g e 0 q x ≡ false
  test_none q x =
      let z : within e (e + 0) x ≡ false =
      ⊎_elim (λ b. within_below e (e + 0) x (ltb-true x e b)) (λ b. let k = ltb-false x e b in within_above e (e + 0) x (omega arith)) (decide (ltb x e)) in
      rw (z, and-false)

dropped_players : (s : State) (p g : ℕ) → p < 8 → (n e : ℕ) → e + n ≤ 256 → (f : ℕ → Player) → dropped g (p * 256 + e) n (table_of (with_players s f)) ≡ table_of (with_players s (wiped f p g e n))
unfolding dropped
dropped_players s p g hp zero e h f =
    same_players s f (wiped f p g e 0) (λ q x _ _. passed_over _ 0 ((f q).held x) (test_none f p g e 0 q x)) (λ q x _ _. passed_over _ empty ((f q).cached x) (test_none f p g e 0 q x))
dropped_players s p g hp (suc n) e h f =
    let he : e < 256 = omega arith in
    let next : suc (p * 256 + e) ≡ p * 256 + suc e = sym (add-suc (p * 256) e) in
    let held : get_or (table_of (with_players s f)) (513 + (p * 256 + e)) 0 ≡ (f p).held e = held_word (with_players s f) p e hp he in
    ⊎_elim
    (λ b.
    let y : (f p).held e ≡ g = eqb-true ((f p).held e) g b in
    rw (held, b, cell_cleared s f p e hp he, next)
    (dropped_players s p g hp n (suc e) (omega arith) (at_cell f p e)
    ∙ same_players s (wiped (at_cell f p e) p g (suc e) n) (wiped f p g e (suc n)) (λ q x _ _. test_hit f p g e n y q x 0 ((f q).held x)) (λ q x _ _. test_hit f p g e n y q x empty ((f q).cached x))))
    (λ b.
    let y : (f p).held e ≡ g → ⊥ = eqb-false ((f p).held e) g b in
    rw (held, b, next)
    (dropped_players s p g hp n (suc e) (omega arith) f
    ∙ same_players s (wiped f p g (suc e) n) (wiped f p g e (suc n)) (λ q x _ _. ap (λ (c : Bool). cond c 0 ((f q).held x)) (test_miss f p g e n y q x)) (λ q x _ _. ap (λ (c : Bool). cond c empty ((f q).cached x)) (test_miss f p g e n y q x))))
    (decide (eqb ((f p).held e) g))

pub dropped-put : (s : State) (p g : ℕ) → p < 8 → dropped g (p * 256) 256 (table_of s) ≡ table_of (drop_guard s p g)
dropped-put s p g hp =
    let f = s.player in
    let pl = cleared_of g (f p) in
    ap (λ (i : ℕ). dropped g i 256 (table_of s)) (sym (add-zero (p * 256)))
    ∙ dropped_players s p g hp 256 0 (omega arith) f
    ∙ same_players s (wiped f p g 0 256) (put p pl f)
    (λ q x _ h. rw (within_in 0 256 x (omega arith) h) (put_part (λ P. P.held x) f p pl (eqb ((f p).held x) g) 0 refl q))
    (λ q x _ h. rw (within_in 0 256 x (omega arith) h) (put_part (λ P. P.cached x) f p pl (eqb ((f p).held x) g) empty refl q))
