-- How a step on the players' table is shown to be what the rules say: by the state that the table holds.
-- Assumes nothing.
use mathlib.Core.Path.{◌≡◌, sym, ap, ◌∙◌}
use mathlib.Core.Bool.{Bool, false}
use mathlib.Core.List.{List}
use Prim.Native.Nat.{ℕ, ◌≤◌, ◌<◌}
use lib.ListN.{length, get_or, take, drop}
use Rattle.store.specs.declared.Reply.{Reply}
use Rattle.requests.specs.declared.Request.{Request}
use Rattle.requests.specs.declared.Scan.{Scan}
use Rattle.requests.specs.Model.{places, loader, any}
use Rattle.requests.specs.Shares.{turned_away, no_place, count_in}
use Rattle.requests.specs.Region.{region_of}
use Rattle.requests.specs.Calls.{scan_of, scanned}
use Rattle.requests.proofs.CountLaws.{turned_counted}
use Rattle.requests.proofs.RegionLaws.{scanned_region}
use Rattle.players.specs.Replies.{refusal}
use Rattle.players.specs.Rules.{State, Result}
use Rattle.players.specs.Table.{players_words, last_word, state_of, table_of}
use Rattle.players.proofs.Tables.{Ok, few_requests, place_free, ok_tables, players_table_back, last_of}
use Rattle.steps.specs.InnerWords.{Moves}
use Rattle.steps.proofs.StateLaws.{part_of}

abbrev pub result : State → Reply → Result
result s r = record { state = s; reply = r }

module _ (f : State → Result) (t : List ℕ) (l : length t ≡ players_words) (r : Reply) where
  -- the table becomes another state's
  pub moves : (t' : List ℕ) → ((s : State) → Ok s → t ≡ table_of s → (r ≡ (f s).reply) × (t' ≡ table_of (f s).state)) → Moves f t r t'
  moves t' m = record { moved = λ st ls v. m (state_of st t) (ok_tables st t v ls l) (sym (players_table_back st t v ls l)) }

  -- it stays as it is
  stays : ((s : State) → Ok s → t ≡ table_of s → f s ≡ result s r) → Moves f t r t
  stays m =
      moves t
      (λ s o e.
      let y = m s o e in
      (ap (λ (x : Result). x.reply) (sym y), e ∙ ap (λ (x : Result). table_of x.state) (sym y)))

-- it stays as it is, and the step is refused
pub refused : (f : State → Result) (t : List ℕ) → length t ≡ players_words → (n : ℕ) (r : Reply) → r ≡ refusal n → ((s : State) → Ok s → t ≡ table_of s → f s ≡ result s (refusal n)) → Moves f t r t
refused f t l n r e m = rw e (stays f t l (refusal n) m)

-- two ways to say what a step does
pub same_step : (f g : State → Result) (t : List ℕ) (r : Reply) (t' : List ℕ) → ((s : State) → g s ≡ f s) → Moves f t r t' → Moves g t r t'
same_step f g t r t' e m = record { moved = λ st ls v. rw (e (state_of st t)) (m.moved st ls v) }

-- what is read of a state's table
module _ {t : List ℕ} {s : State} (o : Ok s) (e : t ≡ table_of s) where
  pub last_is : get_or t 0 0 ≡ s.last
  last_is = ap last_word e ∙ last_of s

  pub part_is : take 768 (drop 8705 t) ≡ region_of s.requests
  part_is = ap (λ (u : List ℕ). take 768 (drop 8705 u)) e ∙ part_of s

  -- what a pass over the requests tells
  module _ (f : Request → Bool) {r : Scan} (er : r ≡ scanned f (take 768 (drop 8705 t))) where
    scan_is : r ≡ scan_of f s.requests
    scan_is = er ∙ ap (scanned f) part_is ∙ scanned_region s.last s.requests (few_requests o) o.requests f

    pub used_is : r.used ≡ length s.requests
    used_is = ap (λ (y : Scan). y.used) scan_is

    pub hit_is : (b : Bool) → r.hit ≡ b → any f s.requests ≡ b
    hit_is b eb = sym (ap (λ (y : Scan). y.hit) scan_is) ∙ eb

    -- whether no place is left for the player, by its counts
    module _ (p : ℕ) {full : Bool} (ef : full ≡ turned_away (count_in r.counts) p) where
      pub full_is : (b : Bool) → full ≡ b → no_place p s.requests ≡ b
      full_is b eb =
          sym (turned_counted s.requests p) ∙ ap (λ (y : Scan). turned_away (count_in y.counts) p) (sym scan_is) ∙ sym ef ∙ eb

      pub room_is : full ≡ false → p ≤ loader → length s.requests < places
      room_is eb h = place_free o p h (full_is false eb)
