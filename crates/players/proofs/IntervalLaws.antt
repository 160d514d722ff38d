-- How far a guard reaches (document 02 §1): what step 14 replies, and that it alters nothing, by the rules and on the words of the tables.
-- Assumes nothing.
use mathlib.Core.Path.{◌≡◌, refl}
use mathlib.Core.Bool.{Bool, true, false, cond}
use mathlib.Core.List.{List}
use Prim.Native.Nat.{ℕ, ◌-◌}
use Rattle.store.specs.declared.Reply.{Reply}
use Rattle.store.proofs.Reach.{FirstOf, LastOf, first_of, last_of}
use Rattle.players.specs.declared.Step.TheVariants.{FindInterval}
use Rattle.players.specs.Replies.{refusal}
use Rattle.players.specs.Rules.{State, step}
use Rattle.players.specs.Table.{valid}
use Rattle.players.specs.Calls.{Done, left, whole}
use Rattle.players.specs.Played.{taken}
use Rattle.players.proofs.CallLaws.{same_tables}

-- the interval that a reply gives holds the entry, all its entries have the entry's guard, and it can be made no longer
pub record Shows (s : State) (e : ℕ) (r : Reply) : Type 0 where
  pub code : r.code ≡ 9
  pub first : FirstOf s.store.guard e r.a
  pub last : LastOf s.store.guard e (255 - e) r.b

pub interval_shown : (s : State) (e : ℕ) → ((step s (FindInterval e)).state ≡ s) × Shows s e (step s (FindInterval e)).reply
interval_shown s e =
    let g = s.store.guard in
    (refl, record { code = refl; first = first_of g e; last = last_of g e (255 - e) })

-- a call that tests the tables leaves them, if what it does to those that keep the rules does
leaves : (st t : List ℕ) (a b : Bool) (d : Done) → (a ≡ true → b ≡ true → d ≡ left d.reply st t) → let x = cond a (cond b d (left (refusal 22) st t)) (left (refusal 21) st t) in x ≡ left x.reply st t
leaves st t true true d h = h refl refl
leaves st t true false d h = refl
leaves st t false b d h = refl

-- on any words: both tables are left as they are
pub interval_taken : (st t : List ℕ) (e : ℕ) → taken (FindInterval e) st t ≡ left (taken (FindInterval e) st t).reply st t
interval_taken st t e = leaves st t (whole st t) (valid st t) _ (λ w v. same_tables st t w (rw v tt) _)
