-- From what a step does to its own table, or to both, to what a call on both tables does.
-- Assumes nothing.
use mathlib.Core.Path.{◌≡◌, sym, ap, ◌∙◌}
use mathlib.Core.Bool.{true, false, and-false}
use mathlib.Core.List.{List}
use Prim.Native.Nat.{ℕ}
use lib.Dec.{eqb}
use lib.ListN.{length}
use borrow.Author.Tests.{eq-eqb, ne_eqb}
use Rattle.store.specs.declared.Reply.{Reply}
use Rattle.store.specs.Table.{table_of as store_table}
use Rattle.requests.proofs.Basics.{clash}
use Rattle.players.specs.declared.Step.{Step}
use Rattle.players.specs.Kinds.{kind}
use Rattle.players.specs.Rules.{step}
use Rattle.players.specs.Table.{players_words, state_of}
use Rattle.players.specs.Calls.{left, whole, Refines}
use Rattle.players.proofs.CheckLaws.{store_long, players_long}
use Rattle.players.proofs.Tables.{store_table_back}
use Rattle.players.proofs.StepCases.{changes_store, store_stays}
use Rattle.steps.specs.InnerWords.{Moves}
use Rattle.steps.specs.InnerStore.{Shifts, Acts}

-- ---- a call on both tables

left_is : {r r' : Reply} {st st' t t' : List ℕ} → r ≡ r' → st ≡ st' → t ≡ t' → left r st t ≡ left r' st' t'
left_is a b c = rw (a, b, c)

module _ (x : Step) (st t : List ℕ) (w : whole st t ≡ true) (r : Reply) where
  pub moves_refines : (t' : List ℕ) → changes_store (kind x) ≡ false → Moves (λ s. step s x) t r t' → Refines (λ s. step s x) st t r st t'
  moves_refines t' k m =
      record {
        wrong = λ h. clash w h;
        right =
            λ _ v.
            let ls = store_long st t w in
            let y = m.moved st ls v in
            left_is y.0 (sym (store_table_back st t v ls (players_long st t w)) ∙ ap store_table (sym (store_stays (state_of st t) x k))) y.1;
      }

  pub shifts_refines : (st' : List ℕ) → Shifts (λ s. step s x) st r st' → Refines (λ s. step s x) st t r st' t
  shifts_refines st' m = record { wrong = λ h. clash w h; right = λ _ v. m.shifted t (players_long st t w) v }

  pub acts_refines : (st' t' : List ℕ) → Acts (λ s. step s x) st t r st' t' → Refines (λ s. step s x) st t r st' t'
  acts_refines st' t' m = record { wrong = λ h. clash w h; right = λ _ v. m.acted v }

-- ---- the lengths

module _ (st t : List ℕ) where
  pub both_long : length st ≡ 1280 → length t ≡ players_words → whole st t ≡ true
  both_long h k = rw (eq-eqb (length st) 1280 h, eq-eqb (length t) players_words k)

  pub store_wrong : (length st ≡ 1280 → ⊥) → whole st t ≡ false
  store_wrong h = rw (ne_eqb (length st) 1280 h)

  pub players_wrong : (length t ≡ players_words → ⊥) → whole st t ≡ false
  players_wrong h = rw (ne_eqb (length t) players_words h) (and-false (eqb (length st) 1280))
