-- The words that the steps' code reads and writes, a case for each way that it goes.
-- Assumes nothing.
use mathlib.Core.Path.{◌≡◌, sym, ap, ◌∙◌}
use mathlib.Core.Bool.{true, false}
use mathlib.Core.List.{List}
use Prim.Native.Nat.{ℕ, suc, ◌+◌, ◌-◌, ◌*◌, ◌≤◌, ◌<◌}
use native.Mathlib.Omega.{arith}
use lib.Dec.{T, leb, ltb, eqb, lit≤}
use lib.ListN.{length, get_or, take, drop, set, replicate, length-drop, length-replicate}
use lib.Seq.{length-take-le}
use mir.Syntax.{w64}
use mir.Val.{Fits}
use borrow.Author.Tests.{eq-eqb, ne_eqb}
use borrow.Rule.Slice.PartMut.{put_mid, same_len_mid}
use Rattle.steps.specs.InnerWords.{live_guard, hit, all_are, caching, filled, cleared, dropped}
use Rattle.players.specs.Table.{players_words}

-- ---- what is read

module _ (t : List ℕ) (p e : ℕ) where
  abbrev held : ℕ
  held = get_or t (513 + (p * 256 + e)) 0

  abbrev cached : ℕ
  cached = get_or t (2561 + (p * 256 + e)) 0

  pub live_by : (held ≡ 0 → ⊥) → eqb (get_or t (1 + e) 0) p ≡ true → ltb (get_or t (257 + e) 0) held ≡ true → held ≡ live_guard t p e
  unfolding live_guard
  live_by h o l = rw (ne_eqb held 0 h, o, l)

  pub same_guard : (cached ≡ 0 → ⊥) → (g : ℕ) → g ≡ live_guard t p e → eqb g cached ≡ hit t p e
  unfolding hit
  same_guard h g eg = rw (ne_eqb cached 0 h, eg)

module _ (v : ℕ) (t : List ℕ) (i high : ℕ) where
  module _ (h : i < high) where
    one : high - i ≡ suc (high - (i + 1))
    one = omega arith

    pub all_stop : (get_or t (1 + i) 0 ≡ v → ⊥) → all_are v (1 + i) (high - i) t ≡ false
    unfolding all_are
    all_stop e = rw (one, ne_eqb (get_or t (1 + i) 0) v e)

    pub all_more : get_or t (1 + i) 0 ≡ v → all_are v (1 + i) (high - i) t ≡ all_are v (1 + (i + 1)) (high - (i + 1)) t
    unfolding all_are
    all_more e =
        let next : suc (1 + i) ≡ 1 + (i + 1) = omega arith in
        rw (one, eq-eqb (get_or t (1 + i) 0) v e, ← next)

  pub all_end : high ≤ i → all_are v (1 + i) (high - i) t ≡ true
  unfolding all_are
  all_end h =
      let z : high - i ≡ 0 = omega arith in
      rw z

-- ---- what is written

-- a part that was lent to be filled
pub fill_part : (b lo hi v : ℕ) (t z : List ℕ) → lo ≤ hi → b + hi ≤ length t → z ≡ replicate (length (take (b + hi - (b + lo)) (drop (b + lo) t))) v → put_mid (b + lo) (b + hi - (b + lo)) t z ≡ filled b lo hi v t
fill_part b lo hi v t z a h e =
    let n : length (take (b + hi - (b + lo)) (drop (b + lo) t)) ≡ b + hi - (b + lo) = length-take-le (b + hi - (b + lo)) (drop (b + lo) t) (rw length-drop (omega arith)) in
    rw (e, n)

pub length-filled : (b lo hi v : ℕ) (t : List ℕ) → lo ≤ hi → b + hi ≤ length t → length (filled b lo hi v t) ≡ length t
length-filled b lo hi v t a h =
    let n : length (take (b + hi - (b + lo)) (drop (b + lo) t)) ≡ b + hi - (b + lo) = length-take-le (b + hi - (b + lo)) (drop (b + lo) t) (rw length-drop (omega arith)) in
    same_len_mid (b + lo) (b + hi - (b + lo)) t (replicate (b + hi - (b + lo)) v) (length-replicate (b + hi - (b + lo)) v ∙ sym n)

-- the cells lo up to hi of a column of a table, which starts at b
pub record Column (b lo hi : ℕ) : Type 0 where
  pub from : Fits w64 (b + lo)
  pub to : Fits w64 (b + hi)
  pub offset : Fits w64 ((b + lo) * 4)
  pub ordered : b + lo ≤ b + hi
  pub inside : (n : ℕ) → n ≡ players_words → b + hi ≤ n

pub column : (b lo hi : ℕ) → T (leb b 6657) → lo ≤ hi → hi ≤ 2048 → Column b lo hi
column b lo hi t a h =
    let k : b ≤ 6657 = lit≤ t in
    record {
      from = record { fits = omega arith };
      to = record { fits = omega arith };
      offset = record { fits = omega arith };
      ordered = omega arith;
      inside = λ n e. omega arith;
    }

-- the four parts that are cleared
module _ (lo hi : ℕ) (t z₁ z₂ z₃ z₄ : List ℕ) (l : length t ≡ players_words) (a : lo ≤ hi) (h : hi ≤ 2048) where
  abbrev lent : ℕ → List ℕ → List ℕ → List ℕ
  lent b u z = put_mid (b + lo) (b + hi - (b + lo)) u z

  abbrev zeros : ℕ → List ℕ → List ℕ
  zeros b u = replicate (length (take (b + hi - (b + lo)) (drop (b + lo) u))) 0

  abbrev u₁ : List ℕ
  u₁ = lent 513 t z₁

  abbrev u₂ : List ℕ
  u₂ = lent 2561 u₁ z₂

  abbrev u₃ : List ℕ
  u₃ = lent 4609 u₂ z₃

  pub clear_parts : z₁ ≡ zeros 513 t → z₂ ≡ zeros 2561 u₁ → z₃ ≡ zeros 4609 u₂ → z₄ ≡ zeros 6657 u₃ → lent 6657 u₃ z₄ ≡ cleared lo hi t
  unfolding cleared
  clear_parts e₁ e₂ e₃ e₄ =
      let f₁ : u₁ ≡ filled 513 lo hi 0 t = fill_part 513 lo hi 0 t z₁ a (omega arith) e₁ in
      let l₁ : length u₁ ≡ players_words = ap length f₁ ∙ length-filled 513 lo hi 0 t a (omega arith) ∙ l in
      let f₂ : u₂ ≡ filled 2561 lo hi 0 u₁ = fill_part 2561 lo hi 0 u₁ z₂ a (omega arith) e₂ in
      let l₂ : length u₂ ≡ players_words = ap length f₂ ∙ length-filled 2561 lo hi 0 u₁ a (omega arith) ∙ l₁ in
      let f₃ : u₃ ≡ filled 4609 lo hi 0 u₂ = fill_part 4609 lo hi 0 u₂ z₃ a (omega arith) e₃ in
      let l₃ : length u₃ ≡ players_words = ap length f₃ ∙ length-filled 4609 lo hi 0 u₂ a (omega arith) ∙ l₂ in
      fill_part 6657 lo hi 0 u₃ z₄ a (omega arith) e₄
      ∙ ap (filled 6657 lo hi 0) (f₃ ∙ ap (filled 4609 lo hi 0) (f₂ ∙ ap (filled 2561 lo hi 0) f₁))

module _ (g : ℕ) (t : List ℕ) where
  pub drop-not : (i : ℕ) → (get_or t (513 + i) 0 ≡ g → ⊥) → t ≡ dropped g i 1 t
  unfolding dropped
  drop-not i h = rw (ne_eqb (get_or t (513 + i) 0) g h)

  pub drop_one : (i : ℕ) (t' : List ℕ) → get_or t (513 + i) 0 ≡ g → t' ≡ caching i 0 0 0 (set t (513 + i) 0) → t' ≡ dropped g i 1 t
  unfolding dropped
  drop_one i t' h e = rw (eq-eqb (get_or t (513 + i) 0) g h) e

  pub drop_four : (i : ℕ) (t₁ t₂ t₃ t₄ : List ℕ) → t₁ ≡ dropped g i 1 t → t₂ ≡ dropped g (i + 1) 1 t₁ → t₃ ≡ dropped g (i + 2) 1 t₂ → t₄ ≡ dropped g (i + 3) 1 t₃ → t₄ ≡ dropped g i 4 t
  unfolding dropped
  drop_four i t₁ t₂ t₃ t₄ e₁ e₂ e₃ e₄ =
      let one : suc i ≡ i + 1 = omega arith in
      let two : suc (suc i) ≡ i + 2 = omega arith in
      let three : suc (suc (suc i)) ≡ i + 3 = omega arith in
      rw (e₄, e₃, e₂, e₁, three, two, one)

  module _ (low k : ℕ) where
    pub drop_more : k < 64 → (t' : List ℕ) → t' ≡ dropped g (low + k * 4) 4 t → dropped g (low + k * 4) (256 - k * 4) t ≡ dropped g (low + (k + 1) * 4) (256 - (k + 1) * 4) t'
    unfolding dropped
    drop_more h t' et =
        let four : 256 - k * 4 ≡ suc (suc (suc (suc (256 - (k + 1) * 4)))) = omega arith in
        let next : suc (suc (suc (suc (low + k * 4)))) ≡ low + (k + 1) * 4 = omega arith in
        rw (four, et, ← next)

    pub drop_end : 64 ≤ k → dropped g (low + k * 4) (256 - k * 4) t ≡ t
    unfolding dropped
    drop_end h =
        let z : 256 - k * 4 ≡ 0 = omega arith in
        rw z
