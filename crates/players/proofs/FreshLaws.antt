-- The stores of `lay_players`: they make the table of a fresh state.
-- Assumes nothing.
use mathlib.Core.Path.{◌≡◌, refl, sym, ap, ◌∙◌}
use mathlib.Core.Bool.{cond}
use mathlib.Core.List.{List, [], ◌∷◌, ◌++◌, map, append-nil}
use Prim.Native.Nat.{ℕ, zero, suc}
use native.Mathlib.Omega.{arith}
use lib.Dec.{eqb}
use lib.ListN.{length, take, drop, set, replicate, length-drop, length-set, length-replicate, replicate-append-replicate}
use lib.Seq.{take_all, length-take-le}
use borrow.Rule.Slice.PartMut.{put_mid, mid_of, same_len_mid}
use Rattle.store.specs.Table.{listed}
use Rattle.store.proofs.FreshLaws.{words_more, array_more}
use Rattle.requests.specs.Region.{placed}
use Rattle.counters.specs.Region.{words_from, region_of as counter_region}
use Rattle.players.specs.Rules.{fresh}
use Rattle.players.specs.Regions.{total, joined}
use Rattle.players.specs.Table.{widths, players_words, the_epochs, table_of}

-- ---- the fresh table

listed_const : (c e n : ℕ) → listed (λ i. c) e n ≡ replicate n c
unfolding listed
listed_const c e zero = refl
listed_const c e (suc n) = ap (λ (l : List ℕ). c ∷ l) (listed_const c (suc e) n)

-- regions of zeros
joined_zeros : (ns : List ℕ) → joined (map (λ n. replicate n 0) ns) ≡ replicate (total ns) 0
joined_zeros [] = refl
joined_zeros (n ∷ ns) = ap (λ (l : List ℕ). replicate n 0 ++ l) (joined_zeros ns) ∙ replicate-append-replicate {A = ℕ} n (total ns) 0

-- the last serial and the owners
abbrev pub before_epochs : List ℕ
before_epochs = 0 ∷ replicate 256 8

-- all regions behind the owners are zeros
fresh_table : table_of fresh ≡ before_epochs ++ replicate (total (drop the_epochs widths)) 0
unfolding table_of placed words_from counter_region
fresh_table =
    rw (listed_const 8 0 256, listed_const 0 0 256, listed_const 0 0 2048)
    (ap (λ (l : List ℕ). 0 ∷ (replicate 256 8 ++ l)) (joined_zeros (drop the_epochs widths)))

-- ---- `lay_players`

first_word : (t : List ℕ) → length t ≡ players_words → take 1 (set t 0 0) ≡ 0 ∷ []
first_word [] h = absurd (omega (arith, h))
first_word (x ∷ t) h = refl

-- the last serial, the owners and the epochs are laid
module _ (t os es : List ℕ) (h : length t ≡ players_words) where
  abbrev owned : List ℕ
  owned = put_mid 1 256 (set t 0 0) os

  module _ (lo : length os ≡ length (mid_of 1 256 (set t 0 0))) (le : length es ≡ length (mid_of 257 256 owned)) where
    long : length owned ≡ players_words
    long = same_len_mid 1 256 (set t 0 0) os lo ∙ length-set t 0 0 ∙ h

    pub begun_long : length (put_mid 257 256 owned es) ≡ players_words
    begun_long = same_len_mid 257 256 owned es le ∙ long

    pub begun : os ≡ cond (eqb (length (mid_of 1 256 (set t 0 0))) 256) (replicate 256 8) (mid_of 1 256 (set t 0 0)) → es ≡ cond (eqb (length (mid_of 257 256 owned)) 256) (replicate 256 0) (mid_of 257 256 owned)
        → take 513 (put_mid 257 256 owned es) ≡ before_epochs ++ replicate 256 0
    begun eo ee =
        let q : take 257 owned ≡ before_epochs = array_more (set t 0 0) (0 ∷ []) 1 0 8 (first_word t h) 256 256 os (rw length-set (omega (arith, h))) refl eo in
        array_more owned before_epochs 257 0 0 (q ∙ sym (append-nil before_epochs)) 256 256 es (omega (arith, long)) refl ee

-- all words before the requests are laid, and then the others
pub fresh_words : (t p : List ℕ) → length t ≡ players_words → take 8705 t ≡ before_epochs ++ replicate 8448 0 → p ≡ replicate (length (mid_of 8705 784 t)) 0 → put_mid 8705 784 t p ≡ table_of fresh
fresh_words t p h q e =
    let n : length (mid_of 8705 784 t) ≡ 784 = length-take-le 784 (drop 8705 t) (rw length-drop (omega (arith, h))) in
    let z : p ≡ replicate 784 0 = e ∙ ap (λ (n : ℕ). replicate n 0) n in
    let l : length (put_mid 8705 784 t p) ≡ players_words = same_len_mid 8705 784 t p (ap length z ∙ length-replicate {A = ℕ} 784 0 ∙ sym n) ∙ h in
    sym (take_all 9489 (put_mid 8705 784 t p) (omega (arith, l))) ∙ words_more t before_epochs 8705 8448 0 q 784 784 p (omega (arith, h)) z ∙ sym fresh_table
