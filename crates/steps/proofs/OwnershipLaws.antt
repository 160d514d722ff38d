-- Steps 1 and 2: owners set over a range.
-- Assumes nothing.
use mathlib.Core.Path.{◌≡◌, ap, ◌∙◌}
use mathlib.Core.Bool.{true}
use mathlib.Core.List.{List}
use Prim.Native.Nat.{ℕ, ◌+◌, ◌-◌, ◌≤◌, ◌<◌}
use native.Mathlib.Omega.{arith}
use lib.ListN.{length, get_or, take, drop, set, replicate, length-set}
use borrow.Author.Tests.{le-leb, lt-leb, lt-ltb}
use borrow.Rule.Slice.PartMut.{put_mid}
use Rattle.store.specs.Model.{bad_range}
use Rattle.store.specs.declared.Range.{Range}
use Rattle.store.specs.declared.Reply.{Reply}
use Rattle.players.specs.declared.Step.TheVariants.{Assign}
use Rattle.players.specs.Replies.{refusal, issued}
use Rattle.players.specs.Rules.{set_owner, step}
use Rattle.steps.specs.InnerWords.{Moves, own, filled}
use Rattle.steps.proofs.WordLaws.{fill_part, length-filled}
use Rattle.steps.proofs.StateLaws.{owners_put}
use Rattle.steps.proofs.MoveLaws.{moves, refused, same_step, last_is}
use Rattle.players.specs.Table.{players_words}

module _ (t : List ℕ) (l : length t ≡ players_words) (p : ℕ) (g : Range) where
  pub own_bad : bad_range g ≡ true → (r : Reply) → r ≡ refusal 28 → Moves (own p g) t r t
  own_bad h r e = refused (own p g) t l 28 r e (λ s _ _. rw h)

  module _ (a : g.low < g.high) where
    module _ (h : g.high ≤ 256) where
      pub own_spent : 4000000 ≤ get_or t 0 0 → (r : Reply) → r ≡ refusal 34 → Moves (own p g) t r t
      own_spent k r e =
          refused (own p g) t l 34 r e
          (λ s o y.
          let n = last_is o y in
          rw (lt-ltb g.low g.high a, le-leb g.high 256 h, le-leb 4000000 s.last (omega arith)))

      -- the parts that are filled
      module _ (k : get_or t 0 0 < 4000000) (n : ℕ) (en : n ≡ get_or t 0 0 + 1) (z₁ z₂ : List ℕ) where
        abbrev u₁ : List ℕ
        u₁ = put_mid (1 + g.low) (1 + g.high - (1 + g.low)) (set t 0 n) z₁

        pub own_done :
            z₁ ≡ replicate (length (take (1 + g.high - (1 + g.low)) (drop (1 + g.low) (set t 0 n)))) p
            → z₂ ≡ replicate (length (take (257 + g.high - (257 + g.low)) (drop (257 + g.low) u₁))) n
            → (r : Reply) → r ≡ issued n → Moves (own p g) t r (put_mid (257 + g.low) (257 + g.high - (257 + g.low)) u₁ z₂)
        own_done e₁ e₂ r er =
            let lo = g.low in
            let hi = g.high in
            let l₀ : length (set t 0 n) ≡ players_words = length-set t 0 n ∙ l in
            let f₁ : u₁ ≡ filled 1 lo hi p (set t 0 n) = fill_part 1 lo hi p (set t 0 n) z₁ (omega arith) (omega arith) e₁ in
            let l₁ : length u₁ ≡ players_words = ap length f₁ ∙ length-filled 1 lo hi p (set t 0 n) (omega arith) (omega arith) ∙ l₀ in
            let f₂ : put_mid (257 + lo) (257 + hi - (257 + lo)) u₁ z₂ ≡ filled 257 lo hi n (filled 1 lo hi p (set t 0 n)) = fill_part 257 lo hi n u₁ z₂ (omega arith) (omega arith) e₂ ∙ ap (filled 257 lo hi n) f₁ in
            moves (own p g) t l r _
            (λ s o y.
            let m = last_is o y in
            let d : own p g s ≡ set_owner s p g = rw (lt-ltb lo hi a, le-leb hi 256 h, lt-leb 4000000 s.last (omega arith)) in
            rw d
            (er ∙ ap issued (en ∙ ap (λ (i : ℕ). i + 1) m), f₂ ∙ ap (λ (u : List ℕ). filled 257 lo hi n (filled 1 lo hi p (set u 0 n))) y ∙ owners_put s p n g (en ∙ ap (λ (i : ℕ). i + 1) m) (omega arith) h))

  pub assign_player : 7 < p → (r : Reply) → r ≡ refusal 28 → Moves (λ s. step s (Assign p g)) t r t
  assign_player h r e = refused (λ s. step s (Assign p g)) t l 28 r e (λ s _ _. rw (le-leb 8 p h))

  pub assign_own : p < 8 → (r : Reply) (t' : List ℕ) → Moves (own p g) t r t' → Moves (λ s. step s (Assign p g)) t r t'
  assign_own h r t' m = same_step (own p g) (λ s. step s (Assign p g)) t r t' (λ s. rw (lt-leb 8 p h)) m
