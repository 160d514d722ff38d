-- The promise holds of the steps as one list.
-- Assumes nothing.
use mathlib.Core.Path.{◌≡◌, refl, ap, ◌∙◌}
use mathlib.Core.Bool.{true}
use mathlib.Core.List.{List, [], ◌∷◌, ◌++◌}
use Prim.Native.Nat.{ℕ}
use Rattle.store.specs.declared.Reply.{Reply}
use Rattle.store.specs.declared.Range.{Range}
use Rattle.players.specs.declared.Step.{Step}
use Rattle.players.specs.declared.Step.TheVariants.{RequestGuard, Read, Deliver, Respond}
use Rattle.players.specs.Rules.{State, step, replies}
use Rattle.players.specs.Played.{state_after}
use Rattle.players.proofs.PlayedLaws.{replies-append, after-append}
use Rattle.first_read.specs.Promise.{all, rules_used, Others, requested, guard_serial, delivered, answered, read, read_serial, read_delivered, read_answered, next, supposed}
use Rattle.first_read.specs.Lines.{line, told, LinePromise}
use Rattle.first_read.proofs.Theorem.{theorem}

-- the steps xs from s get the replies rs, and leave t
pub record Takes (s : State) (xs : List Step) (rs : List Reply) (t : State) : Type 0 where
  pub replied : replies s xs ≡ rs
  pub left : state_after s xs ≡ t

nothing : (s : State) → Takes s [] [] s
unfolding state_after
nothing s = record { replied = refl; left = refl }

-- a step, and then the rest
first : (s : State) (x : Step) (ys : List Step) (r : Reply) (rs : List Reply) (t : State) → (step s x).reply ≡ r → Takes (step s x).state ys rs t → Takes s (x ∷ ys) (r ∷ rs) t
unfolding state_after
first s x ys r rs t a b = record { replied = ap (λ (q : Reply). q ∷ replies (step s x).state ys) a ∙ ap (λ (l : List Reply). r ∷ l) b.replied; left = b.left }

-- and steps after them
pub followed : (s : State) (xs ys : List Step) (rs : List Reply) (t : State) → Takes s xs rs t → Takes s (xs ++ ys) (rs ++ replies t ys) (state_after t ys)
followed s xs ys rs t b =
    record {
      replied = replies-append s xs ys ∙ ap (λ (l : List Reply). l ++ replies (state_after s xs) ys) b.replied ∙ ap (λ (z : State). rs ++ replies z ys) b.left;
      left = after-append s xs ys ∙ ap (λ (z : State). state_after z ys) b.left;
    }

-- steps before them
pub joined : (s : State) (xs ys : List Step) (rs : List Reply) (t : State) → Takes (state_after s xs) ys rs t → Takes s (xs ++ ys) (replies s xs ++ rs) t
joined s xs ys rs t b = record { replied = replies-append s xs ys ∙ ap (λ (l : List Reply). replies s xs ++ l) b.replied; left = after-append s xs ys ∙ b.left }

-- a step after those of others, and then the rest
then : (s : State) (xs : List Step) (x : Step) (ys : List Step) (r : Reply) (rs : List Reply) (t : State) → (step (state_after s xs) x).reply ≡ r → Takes (step (state_after s xs) x).state ys rs t
    → Takes s (xs ++ (x ∷ ys)) (replies s xs ++ (r ∷ rs)) t
then s xs x ys r rs t a b = joined s xs (x ∷ ys) (r ∷ rs) t (first (state_after s xs) x ys r rs t a b)

-- the promised replies, and the state that the next read leaves
pub line_taken : (s : State) (p : ℕ) (g : Range) (e : ℕ) (o : Others) → all (rules_used s g) ≡ true → all (supposed s p g e o) ≡ true → Takes s (line s p g e o) (told s p g e o) (next s p g e o).state
line_taken s p g e o rules h =
    let t = theorem s p g e o rules h in
    let n = guard_serial s p g e o in
    let m = read_serial s p g e o in
    first s (RequestGuard p g) _ _ _ _ t.requesting
    (then (requested s p g e o).state o.before_delivery (Deliver n) _ _ _ _ t.delivering
    (then (delivered s p g e o).state o.before_answer (Respond n) _ _ _ _ t.answering
    (then (answered s p g e o).state o.before_read (Read p e) _ _ _ _ t.reading
    (then (read s p g e o).state o.before_read_delivery (Deliver m) _ _ _ _ t.read_delivering
    (then (read_delivered s p g e o).state o.before_read_answer (Respond m) _ _ _ _ t.read_answering
    (then (read_answered s p g e o).state o.before_next (Read p e) [] _ [] _ t.from_memory (nothing (next s p g e o).state)))))))

pub line_theorem : (s : State) (p : ℕ) (g : Range) (e : ℕ) (o : Others) → LinePromise s p g e o
line_theorem s p g e o rules h = (line_taken s p g e o rules h).replied
