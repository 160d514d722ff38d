-- The share of reads from memory: what its tests come to.
-- Assumes nothing.
use mathlib.Core.Path.{◌≡◌, sym, ap, ◌∙◌}
use mathlib.Core.Logic.{⊎_elim}
use mathlib.Core.List.{List}
use Prim.Native.Nat.{ℕ}
use lib.Dec.{T, leb}
use lib.ListN.{take, drop}
use borrow.Author.Tests.{leb-true, leb-false}
use Rattle.store.specs.declared.Reply.{Reply}
use Rattle.requests.proofs.Basics.{decide}
use Rattle.counters.specs.Region.{region_of as counter_region, shared as region_shared}
use Rattle.counters.proofs.RegionLaws.{shared_region, shared_out}
use Rattle.players.specs.Regions.{region}
use Rattle.players.specs.Table.{state_of, valid}
use Rattle.players.specs.Calls.{checked, shared}
use Rattle.players.proofs.Tables.{ok_tables, players_table_back, counters_of}
use Rattle.players.proofs.CheckLaws.{store_long, players_long}
use Rattle.players.proofs.CallLaws.{passed}

module _ (st t : List ℕ) (r : Reply) (e : r ≡ checked st t) (p : ℕ) where
  -- the tables are not refused, and their words of the counters give the share
  module _ (z : r.code ≡ 0) where
    pub share_given : (x : Reply) → x ≡ region_shared p (take 16 (drop 9473 t)) → x ≡ shared p st t
    unfolding region
    share_given x ex =
        let w = passed st t r e z in
        let v : T (valid st t) = rw w.1 tt in
        let ls = store_long st t w.0 in
        let l = players_long st t w.0 in
        let s = state_of st t in
        let k = ok_tables st t v ls l in
        let y : take 16 (drop 9473 t) ≡ counter_region s.counters = ap (λ (u : List ℕ). take 16 (drop 9473 u)) (sym (players_table_back st t v ls l)) ∙ counters_of s in
        ex ∙ ap (region_shared p) y
        ∙ rw (w.0, w.1)
        (⊎_elim (λ b. rw b (shared_out s.counters k.counters p (leb-true 8 p b))) (λ b. rw b (shared_region s.counters k.counters p (leb-false 8 p b)))
        (decide (leb 8 p)))
