-- The promise of the tables themselves: any two lent tables for which `players::check` replies 0, and calls on them, which do what their contracts say, word for word:
-- one call of `steps::step` for each step; one run over session bytes; any calls in any order. Quoted words are document 02's, §6.
-- Assumes nothing.
use Rattle.std.specs.Prelude.{◌≡◌, true, List, ◌++◌, ℕ}
use Rattle.store.specs.declared.Reply.{Reply}
use Rattle.store.specs.declared.Range.{Range}
use Rattle.players.specs.declared.Step.{Step}
use Rattle.players.specs.Rules.{State, replies}
use Rattle.players.specs.Played.{AllFit, Tables, Keeps, held_in, state_after, played}
use Rattle.session.specs.Records.{Bytes}
use Rattle.session.specs.Runs.{steps, whole_places}
use Rattle.steps.specs.RunCalls.{ran, replies_from}
use Rattle.linearizable.specs.Calls.{Call, AllHanded, all_steps, all_replies}
use Rattle.first_read.specs.Promise.{all, Others, next, supposed}
use Rattle.first_read.specs.Lines.{line, told}

module _ (p : ℕ) (g : Range) (e : ℕ) (o : Others) where
  -- ‘In tables that keep the rules’ (`Keeps`): of calls of `steps::step`, each on the tables that the last one left. As in the claim about tables of crate linearizable, the entries of steps fit their width
  abbrev pub TablesPromise : Tables → Type 0
  TablesPromise u =
      let s = held_in u in
      Keeps u → AllFit (line s p g e o) → all (supposed s p g e o) ≡ true → played u.store u.players (line s p g e o) ≡ told s p g e o

  -- the steps of a list among which these stand: after the steps `before`, which may be any, and with any steps after them
  abbrev pub Among : State → List Step → List Step → List Step → Type 0
  Among s before after xs = xs ≡ before ++ (line (state_after s before) p g e o ++ after)

  -- their replies: at the places of these steps the ones promised
  abbrev pub Told : State → List Step → List Step → List Reply → Type 0
  Told s before after rs = let s' = state_after s before in rs ≡ replies s before ++ (told s' p g e o ++ replies (next s' p g e o).state after)

  -- of a run over session bytes that holds these records in this order: the replies that stand in its list, as many as it reports
  abbrev pub RunPromise : Tables → List ℕ → ℕ → List ℕ → List Step → List Step → Type 0
  RunPromise u session budget list before after =
      let s = held_in u in
      let d = ran u.store u.players session budget list in
      Keeps u → Bytes session → Among s before after (steps session budget (whole_places list)) → all (supposed (state_after s before) p g e o) ≡ true
      → Told s before after (replies_from d.list 0 d.report.records)

  -- of any calls in any order that take these steps in this order, single ones, exported ones, runs, with previews among them: the replies that they give
  abbrev pub CallsPromise : Tables → List Call → List Step → List Step → Type 0
  CallsPromise u cs before after =
      let s = held_in u in
      Keeps u → AllHanded cs → Among s before after (all_steps cs) → all (supposed (state_after s before) p g e o) ≡ true → Told s before after (all_replies u cs)
