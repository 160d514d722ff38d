-- The promise of the steps as one list: the player's seven with those of others between them, and the reply that stands at the place of each. Quoted words are document
-- 02's, §6.
-- Assumes nothing.
use Rattle.std.specs.Prelude.{◌≡◌, true, List, [], ◌∷◌, ◌++◌, ℕ}
use Rattle.store.specs.declared.Reply.{Reply}
use Rattle.store.specs.declared.Range.{Range}
use Rattle.players.specs.declared.Step.{Step}
use Rattle.players.specs.declared.Step.TheVariants.{RequestGuard, Read, Deliver, Respond}
use Rattle.players.specs.Replies.{issued, done, granted, store_read, cache_read}
use Rattle.players.specs.Rules.{State, replies}
use Rattle.first_read.specs.Promise.{all, rules_used, Others, requested, guard_serial, delivered, answered, read, read_serial, read_delivered, read_answered, supposed}

module _ (s : State) (p : ℕ) (g : Range) (e : ℕ) (o : Others) where
  -- ‘the guard asked for, arrived and answered, then an entry there read, arrived and answered’, and ‘the player's next step’
  abbrev pub line : List Step
  line =
      RequestGuard p g
      ∷ (o.before_delivery ++ (Deliver (guard_serial s p g e o)
      ∷ (o.before_answer ++ (Respond (guard_serial s p g e o)
      ∷ (o.before_read ++ (Read p e
      ∷ (o.before_read_delivery ++ (Deliver (read_serial s p g e o)
      ∷ (o.before_read_answer ++ (Respond (read_serial s p g e o)
      ∷ (o.before_next ++ (Read p e
      ∷ []))))))))))))

  -- the replies: of the player's steps those promised, of the others' what the rules say
  abbrev pub told : List Reply
  told =
      let a = (read_answered s p g e o).reply.a in
      let b = (read_answered s p g e o).reply.b in
      issued (guard_serial s p g e o)
      ∷ (replies (requested s p g e o).state o.before_delivery ++ (done
      ∷ (replies (delivered s p g e o).state o.before_answer ++ (granted (guard_serial s p g e o)
      ∷ (replies (answered s p g e o).state o.before_read ++ (issued (read_serial s p g e o)
      ∷ (replies (read s p g e o).state o.before_read_delivery ++ (done
      ∷ (replies (read_delivered s p g e o).state o.before_read_answer ++ (store_read a b
      ∷ (replies (read_answered s p g e o).state o.before_next ++ (cache_read a b
      ∷ []))))))))))))

  abbrev pub LinePromise : Type 0
  LinePromise = all (rules_used s g) ≡ true → all (supposed s p g e o) ≡ true → replies s line ≡ told
