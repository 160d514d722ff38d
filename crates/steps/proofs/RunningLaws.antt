-- The loop of a run: what holds whenever another record may be taken, and how it ends.
-- Assumes nothing.
use mathlib.Core.Path.{◌≡◌, ◌∙◌, refl, sym, ap}
use mathlib.Core.Bool.{true, false}
use mathlib.Core.List.{List, [], ◌∷◌, ◌++◌, append-nil}
use Prim.Native.Nat.{ℕ, zero, suc, ◌+◌, ◌-◌, ◌*◌, ◌≤◌, ◌<◌}
use native.Mathlib.Omega.{arith}
use native.Mathlib.Nat.{add-zero}
use lib.Dec.{T, eqb}
use lib.ListN.{length, take, drop, length-drop, length-append}
use lib.Seq.{sets, drop-drop, take_all}
use borrow.Author.Tests.{eq-eqb, ne_eqb}
use Rattle.store.specs.Table.{table_of as store_table}
use Rattle.store.specs.declared.Reply.{Reply}
use Rattle.players.specs.declared.Step.{Step}
use Rattle.players.specs.Replies.{reply}
use Rattle.players.specs.Rules.{step}
use Rattle.players.specs.Table.{state_of, table_of, valid}
use Rattle.players.specs.Calls.{whole, Refines, Done}
use Rattle.players.proofs.CallLaws.{same_tables, stepped}
use Rattle.session.specs.Decoded.{Decoded, Record, Refused}
use Rattle.session.specs.Records.{decode, Decodes, Bytes}
use Rattle.session.specs.Mark.{mark}
use Rattle.session.specs.Runs.{report, Run, at_end, spent, stopped, took, run_from, filled}
use Rattle.steps.specs.RunCalls.{finished, encoded}
use Rattle.steps.specs.InnerRun.{Ready}
use Rattle.session.proofs.RoundTrip.{within, decoded_fits}
use Rattle.steps.proofs.LoopLaws.{after, after_none, after-took, filled_more}

-- ---- what stands at a place

-- the part that starts at the place is read
pub decoded_at : (place : ℕ) (session : List ℕ) (d e : Decoded) → Decodes (take (length session - place) (drop place session)) d → d ≡ e
    → decode (drop place session) ≡ e
decoded_at place session d e h k =
    ap decode (sym (take_all (length session - place) (drop place session) (rw length-drop (omega arith)))) ∙ sym h.answer ∙ k

-- a record lies within the session
pub record_within : (place : ℕ) (session : List ℕ) (x : Step) (n : ℕ) → place ≤ length session → decode (drop place session) ≡ Record x n
    → (1 ≤ n) × (place + n ≤ length session)
record_within place session x n h e =
    let w = within (drop place session) x n e in
    let y = length-drop place session in
    (w.0, omega (arith, w.1))

-- ---- the loop

-- `taken` records are taken, up to `place`: the run from here on, after their replies, is the whole run
pub record Running (whole_run : Run) (left : ℕ) (session list₀ : List ℕ) (taken place : ℕ) (st t list : List ℕ) : Type 0 where
  pub replies : List Reply
  pub count : length replies ≡ taken
  pub most : taken ≤ left
  pub listed : list ≡ filled list₀ replies
  pub lengths : whole st t ≡ true
  pub keeps : T (valid st t)
  pub rest : after replies (run_from (left - taken) (state_of st t) place (drop place session)) ≡ whole_run
  pub inside : place ≤ length session

module _ (left : ℕ) (session list₀ : List ℕ) where
  -- before the first record
  pub running_begins : (st t : List ℕ) → Ready st t session left list₀
      → Running (run_from left (state_of st t) (length mark) (drop (length mark) session)) left session list₀ 0 (length mark) st t list₀
  running_begins st t r =
      let e : left - 0 ≡ left = omega arith in
      record {
        replies = [];
        count = refl;
        most = omega arith;
        listed = refl;
        lengths = r.lengths;
        keeps = r.keeps;
        rest = rw e (after_none _);
        inside = r.marked;
      }

  module _ (whole_run : Run) (taken place : ℕ) (st t list : List ℕ) (r : Running whole_run left session list₀ taken place st t list) where
    -- it stops here
    stops : (why : ℕ) → run_from (left - taken) (state_of st t) place (drop place session) ≡ stopped why place (state_of st t)
        → finished (report why taken place) list st t ≡ encoded list₀ whole_run
    stops why e =
        let s = state_of st t in
        let rs = r.replies in
        let d = same_tables st t r.lengths r.keeps (reply 0 0 0) in
        let es : store_table s.store ≡ st = ap (λ (x : Done). x.store) d in
        let et : table_of s ≡ t = ap (λ (x : Done). x.players) d in
        let n : length rs + 0 ≡ taken = add-zero (length rs) ∙ r.count in
        sym (ap (encoded list₀) (sym r.rest ∙ ap (after rs) e) ∙ rw (n, append-nil rs, es, et, r.listed))

    -- at the session's end
    pub ends : place ≡ length session → finished (report at_end taken place) list st t ≡ encoded list₀ whole_run
    unfolding run_from
    ends e = stops at_end (by (left - taken))
      where
        z : length (drop place session) ≡ 0
        z = rw (length-drop place session) (omega arith)

        by : (k : ℕ) → run_from k (state_of st t) place (drop place session) ≡ stopped at_end place (state_of st t)
        by zero = rw (eq-eqb (length (drop place session)) 0 z)
        by (suc k) = rw (eq-eqb (length (drop place session)) 0 z)

    module _ (more : place ≡ length session → ⊥) where
      some : eqb (length (drop place session)) 0 ≡ false
      some = ne_eqb (length (drop place session)) 0 (λ z. more (let y = sym (length-drop place session) ∙ z in let h = r.inside in omega arith))

      -- the budget or the list's places are spent
      pub is_spent : left ≤ taken → finished (report spent taken place) list st t ≡ encoded list₀ whole_run
      unfolding run_from
      is_spent h = stops spent (let z : left - taken ≡ 0 = omega arith in rw (z, some))

      module _ (h : taken < left) where
        next : left - taken ≡ suc (left - (taken + 1))
        next = omega arith

        -- the record is refused
        pub is_refused : (n : ℕ) → decode (drop place session) ≡ Refused n → finished (report n taken place) list st t ≡ encoded list₀ whole_run
        unfolding run_from
        is_refused n e = stops n (rw (next, some, e))

        -- it is taken
        pub one_more : (b : Bytes (drop place session)) (x : Step) (n : ℕ) → decode (drop place session) ≡ Record x n → 3 * taken + 3 ≤ length list₀
            → (a : Reply) (st' t' list' : List ℕ) → Refines (λ s. step s x) st t a st' t' → list' ≡ sets list (3 * taken) (a.code ∷ a.a ∷ a.b ∷ [])
            → Running whole_run left session list₀ (taken + 1) (place + n) st' t' list'
        unfolding run_from
        one_more b x n e room a st' t' list' g p =
            let s = state_of st t in
            let rs = r.replies in
            let l = stepped st t x a st' t' r.lengths r.keeps (decoded_fits (drop place session) x n b e) g in
            let q : run_from (left - taken) s place (drop place session) ≡ took a (run_from (left - (taken + 1)) (state_of st' t') (place + n) (drop (place + n) session)) =
            rw (next, some, e, l.replied, l.holds, drop-drop n place session) in
            record {
              replies = rs ++ (a ∷ []);
              count = length-append rs (a ∷ []) ∙ ap (λ (k : ℕ). k + 1) r.count;
              most = omega arith;
              listed = p ∙ rw (r.listed, sym r.count) (filled_more list₀ rs a (rw r.count room));
              lengths = l.lengths;
              keeps = l.keeps;
              rest = sym (after-took rs a _) ∙ sym (ap (after rs) q) ∙ r.rest;
              inside = (record_within place session x n r.inside e).1;
            }
