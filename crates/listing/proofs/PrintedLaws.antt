-- The listing of a session: what fresh tables, a run and its lines come to.
-- Assumes nothing.
use mathlib.Core.Path.{◌≡◌, ◌∙◌, ap}
use mathlib.Core.Bool.{true}
use mathlib.Core.List.{List, ◌++◌}
use Prim.Native.Nat.{ℕ, ◌*◌, ◌/◌, ◌≤◌}
use native.Mathlib.Omega.{arith}
use lib.ListN.{length, take}
use Rattle.store.specs.Table.{table_of as store_table}
use Rattle.store.specs.declared.Reply.{Reply}
use Rattle.players.specs.Rules.{fresh}
use Rattle.players.specs.Table.{table_of}
use Rattle.players.specs.Calls.{Done, left, whole, made_fresh}
use Rattle.session.specs.Reports.{Report}
use Rattle.session.specs.Runs.{run, reply_words, filled}
use Rattle.session.specs.Listing.{header, reply_lines, end_line, budget, places, printed}
use Rattle.steps.specs.RunCalls.{Finished, finished, encoded, ran, replies_from}
use Rattle.steps.proofs.LoopLaws.{replies_filled}
use Rattle.steps.proofs.FreshRuns.{counted, fresh-ran}

-- a report and a list of words are those of the run that the program prints
pub record Told (session : List ℕ) (report : Report) (list : List ℕ) : Type 0 where
  pub reported : report ≡ (run fresh session budget places).report
  pub few : report.records ≤ places
  pub replies : replies_from list 0 report.records ≡ (run fresh session budget places).replies

-- from tables that were made fresh
pub told : (st₀ t₀ : List ℕ) (a : Reply) (st t : List ℕ) → whole st₀ t₀ ≡ true → left a st t ≡ made_fresh st₀ t₀
    → (session list : List ℕ) → length list ≡ places * reply_words
    → (report : Report) (list' st' t' : List ℕ) → finished report list' st' t' ≡ ran st t session budget list → Told session report list'
told st₀ t₀ a st t w f session list n report list' st' t' e =
    let r = run fresh session budget places in
    let rs = r.replies in
    let g = rw w at f in
    let es : st ≡ store_table fresh.store = ap (λ (x : Done). x.store) g in
    let et : t ≡ table_of fresh = ap (λ (x : Done). x.players) g in
    let p : length list / reply_words ≡ places = omega arith in
    let q : finished report list' st' t' ≡ encoded list r =
    e ∙ rw (es, et) (fresh-ran session budget list) ∙ ap (λ (k : ℕ). encoded list (run fresh session budget k)) p in
    let m = ap (λ (x : Finished). x.report) q in
    let l : list' ≡ filled list rs = ap (λ (x : Finished). x.list) q in
    let c = counted fresh session budget places in
    let k : report.records ≡ length rs = ap (λ (x : Report). x.records) m ∙ c.replied in
    record {
      reported = m;
      few = omega (arith, c.few);
      replies = rw (k, l) (replies_filled list rs);
    }

-- its lines are what the program prints
pub is_printed : (session : List ℕ) (report : Report) (list : List ℕ) → Told session report list → (r : ℕ) (out : List ℕ)
    → take r out ≡ header ++ (reply_lines 1 (replies_from list 0 report.records) ++ end_line report) → take r out ≡ printed session
is_printed session report list h r out e =
    e
    ∙ ap (λ (l : List Reply). header ++ (reply_lines 1 l ++ end_line report)) h.replies
    ∙ ap (λ (x : Report). header ++ (reply_lines 1 (run fresh session budget places).replies ++ end_line x)) h.reported
