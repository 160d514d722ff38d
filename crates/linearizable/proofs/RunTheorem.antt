-- The claim holds of what a run leaves in list and tables.
-- Assumes nothing.
use mathlib.Core.Path.{◌≡◌, ◌∙◌, refl, sym, ap, subst}
use mathlib.Core.List.{List, [], ◌∷◌}
use Prim.Native.Nat.{ℕ, zero, suc}
use lib.Dec.{ltb}
use lib.ListN.{length, drop}
use Rattle.store.specs.declared.Reply.{Reply}
use Rattle.requests.proofs.Basics.{cond_elim}
use Rattle.players.specs.declared.Step.{Step}
use Rattle.players.specs.Rules.{State, replies, fresh}
use Rattle.players.specs.Played.{AllFit, state_after, tables_of}
use Rattle.players.proofs.Tables.{state_table, ok_fresh}
use Rattle.players.proofs.PlayedLaws.{ok_after}
use Rattle.session.specs.Decoded.{Decoded, Record, Refused}
use Rattle.session.specs.Records.{decode, Bytes}
use Rattle.session.specs.Mark.{mark, marked}
use Rattle.session.specs.Runs.{on_record, run, steps_from, steps, allowed, longest, whole_places}
use Rattle.session.proofs.RunLaws.{bytes_drop}
use Rattle.session.proofs.RoundTrip.{decoded_fits}
use Rattle.steps.specs.RunCalls.{encoded, replies_from}
use Rattle.steps.proofs.LoopLaws.{replies_filled}
use Rattle.steps.proofs.FreshRuns.{counted, fresh-ran}
use Rattle.linearizable.specs.Claim.{LinearizableBy}
use Rattle.linearizable.specs.Tables.{store_in}
use Rattle.linearizable.specs.Runs.{LinearizableRan}
use Rattle.linearizable.proofs.Theorem.{theorem}
use Rattle.linearizable.proofs.SessionTheorem.{run_of_steps}

-- ---- the fields of the steps that bytes stand for fit

fit_next : (d : Decoded) (part : List ℕ) (f : ℕ → List Step) → decode part ≡ d → Bytes part → ((n : ℕ) → AllFit (f n)) → AllFit (on_record d (λ x n. x ∷ f n) (λ n. []))
fit_next (Record x n) part f e b h = (decoded_fits part x n b e, h n)
fit_next (Refused n) part f e b h = tt

fit_from : (left : ℕ) (part : List ℕ) → Bytes part → AllFit (steps_from left part)
unfolding steps_from
fit_from zero part b = tt
fit_from (suc left) part b = fit_next (decode part) part (λ n. steps_from left (drop n part)) refl b (λ n. fit_from left (drop n part) (bytes_drop n part b))

pub bytes_fit : (session : List ℕ) (budget places : ℕ) → Bytes session → AllFit (steps session budget places)
bytes_fit session budget places b =
    cond_elim AllFit (ltb longest (length session)) _ _ (λ _. tt) (λ _.
    cond_elim AllFit (marked session) _ _ (λ _. fit_from (allowed budget places) (drop (length mark) session) (bytes_drop (length mark) session b)) (λ _. tt))

-- ---- the run

pub run_theorem : (session : List ℕ) (budget : ℕ) (list : List ℕ) → LinearizableRan session budget list
run_theorem session budget list b st t w =
    let places = whole_places list in
    let xs = steps session budget places in
    let r = run fresh session budget places in
    let h = run_of_steps fresh session budget places in
    let c = counted fresh session budget places in
    let f = bytes_fit session budget places b in
    let left : store_in (tables_of r.state) ≡ (state_after fresh xs).store =
    rw h.left (ap (λ (s : State). s.store) (state_table (state_after fresh xs) (ok_after fresh ok_fresh xs f))) in
    let listed : replies_from (encoded list r).list 0 r.report.records ≡ replies fresh xs = rw c.replied (replies_filled list r.replies) ∙ h.replied in
    rw (w, fresh-ran session budget list)
    (record {
      records = h.records;
      linear = subst (λ (rs : List Reply). LinearizableBy xs rs (store_in (tables_of r.state))) (sym listed) (rw left (theorem xs));
    })
