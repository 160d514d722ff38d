-- Which codes a step can reply, by its kind: so 33 occurs no more, and 38 only where a place is needed (document 02 §5).
-- Assumes nothing.
use mathlib.Core.Path.{subst}
use mathlib.Core.Logic.{◌≢◌}
use mathlib.Core.Bool.{Bool, false, not, ◌||◌}
use mathlib.Core.List.{List, [], ◌∷◌}
use Prim.Native.Nat.{ℕ, ◌<◌}
use lib.Dec.{T, leb, eqb}
use Rattle.store.specs.Model.{one_tablet, commits, serials, bad_range}
use Rattle.requests.specs.declared.Request.{Request}
use Rattle.requests.specs.declared.Fit.{Fit}
use Rattle.requests.specs.declared.Fit.TheVariants.{Undelivered, Answerable, Pending, Abandoned}
use Rattle.requests.specs.Model.{loader, any, requesting, named, is_guard_request, is_read}
use Rattle.requests.specs.Shares.{own_places, count_by, no_place}
use Rattle.requests.proofs.Basics.{cond_elim}
use Rattle.requests.proofs.Rising.{find_elim}
use Rattle.players.specs.declared.Step.{Step}
use Rattle.players.specs.declared.Step.TheVariants.{Assign, Release, RequestGuard, Read, Write, Deliver, Respond, Abandon, Lose, Split, Merge, RestartTablet, RestartPlayer, FindInterval, Load}
use Rattle.players.specs.Replies.{refusal, out_of_range, not_owner, no_live_guard, already_requested, no_such_request, no_place_left, no_serial_left, wrong_boundary}
use Rattle.players.specs.Rules.{State, Result, nobody, players, all_entries, owns, live, cache_hit, still_owned, set_owner, request_guard, read_from_cache, read_from_store, write, load, deliver, respond, abandon, lose, set_boundary, restart_player, on_request, need_serial, need_place, step}
use Rattle.players.proofs.StepFacts.{check_elim}
use Rattle.players.proofs.ShareLaws.{Asks, a_guard, a_read, a_write, a_load, never_turned_away}

abbrev pub among : ℕ → List ℕ → Bool
among n [] = false
among n (m ∷ ms) = eqb n m || among n ms

-- the codes, but for those of the tables, 21 and 22
abbrev pub codes : Step → List ℕ
codes (Assign p g) = 1 ∷ 28 ∷ 34 ∷ []
codes (Release g) = 1 ∷ 28 ∷ 34 ∷ []
codes (RequestGuard p g) = 1 ∷ 28 ∷ 29 ∷ 31 ∷ 38 ∷ 34 ∷ []
codes (Read p e) = 1 ∷ 2 ∷ 28 ∷ 38 ∷ 34 ∷ []
codes (Write p e v) = 1 ∷ 28 ∷ 29 ∷ 30 ∷ 38 ∷ 34 ∷ []
codes (Deliver n) = 0 ∷ 32 ∷ []
codes (Respond n) = 3 ∷ 4 ∷ 5 ∷ 6 ∷ 7 ∷ 8 ∷ 32 ∷ []
codes (Abandon n) = 0 ∷ 32 ∷ []
codes (Lose n) = 0 ∷ 32 ∷ []
codes (Split e) = 0 ∷ 28 ∷ 35 ∷ []
codes (Merge e) = 0 ∷ 28 ∷ 35 ∷ []
codes (RestartTablet e) = 0 ∷ []
codes (RestartPlayer p) = 0 ∷ 28 ∷ []
codes (FindInterval e) = 9 ∷ []
codes (Load e v) = 1 ∷ 38 ∷ 34 ∷ []

-- the code of a result is one of these
abbrev In : List ℕ → Result → Type 0
In l r = T (among r.reply.code l)

module _ (s : State) where
  serial_in : (l : List ℕ) (r : Result) → T (among no_serial_left l) → In l r → In l (need_serial s r)
  serial_in l r t u = check_elim (In l) s (leb serials s.last) no_serial_left r t (λ _. u)

  place_in : (l : List ℕ) (p : ℕ) (r : Result) → T (among no_place_left l) → T (among no_serial_left l) → In l r → In l (need_place s p r)
  place_in l p r t u v = check_elim (In l) s (no_place p s.requests) no_place_left (need_serial s r) t (λ _. serial_in l r u v)

  request_in : (l : List ℕ) (f : Fit) (n : ℕ) (go : Request → Result) → T (among no_such_request l) → ((r : Request) → In l (go r)) → In l (on_request s f n go)
  request_in l f n go t h = find_elim (In l) (named f n) s.requests (record { state = s; reply = refusal no_such_request }) go t (λ r _ _. h r)

  delivered_in : (r : Request) → In (0 ∷ 32 ∷ []) (deliver s r)
  delivered_in r =
      let l : List ℕ = 0 ∷ 32 ∷ [] in
      cond_elim (In l) (is_guard_request r) _ _ (λ _. cond_elim (In l) (one_tablet s.store r.low r.high) _ _ (λ _. tt) (λ _. tt))
      (λ _. cond_elim (In l) (is_read r) _ _ (λ _. tt) (λ _. cond_elim (In l) (commits s.store r.low r.guard) _ _ (λ _. tt) (λ _. tt)))

  answered_in : (r : Request) → In (3 ∷ 4 ∷ 5 ∷ 6 ∷ 7 ∷ 8 ∷ 32 ∷ []) (respond s r)
  answered_in r =
      let l : List ℕ = 3 ∷ 4 ∷ 5 ∷ 6 ∷ 7 ∷ 8 ∷ 32 ∷ [] in
      cond_elim (In l) (is_guard_request r) _ _
      (λ _. cond_elim (In l) (still_owned s r) _ _ (λ _. cond_elim (In l) (eqb r.first 1) _ _ (λ _. tt) (λ _. tt)) (λ _. tt))
      (λ _. cond_elim (In l) (is_read r) _ _ (λ _. tt) (λ _. cond_elim (In l) (eqb r.first 1) _ _ (λ _. tt) (λ _. tt)))

  -- every step, in whatever state
  pub code_given : (x : Step) → In (codes x) (step s x)
  code_given (Assign p g) = check_elim (In (codes (Assign p g))) s (leb players p || bad_range g) out_of_range _ tt (λ _. serial_in (codes (Assign p g)) (set_owner s p g) tt tt)
  code_given (Release g) = check_elim (In (codes (Release g))) s (bad_range g) out_of_range _ tt (λ _. serial_in (codes (Release g)) (set_owner s nobody g) tt tt)
  code_given (RequestGuard p g) =
      let l = codes (RequestGuard p g) in
      check_elim (In l) s (leb players p || bad_range g) out_of_range _ tt
      (λ _. check_elim (In l) s (not (all_entries (owns s p) g.low g.high)) not_owner _ tt
      (λ _. check_elim (In l) s (any (requesting p g) s.requests) already_requested _ tt (λ _. place_in l p (request_guard s p g) tt tt tt)))
  code_given (Read p e) =
      let l = codes (Read p e) in
      check_elim (In l) s (leb players p) out_of_range _ tt
      (λ _. cond_elim (In l) (cache_hit s p e) (read_from_cache s p e) (need_place s p (read_from_store s p e)) (λ _. tt) (λ _. place_in l p (read_from_store s p e) tt tt tt))
  code_given (Write p e v) =
      let l = codes (Write p e v) in
      check_elim (In l) s (leb players p) out_of_range _ tt
      (λ _. check_elim (In l) s (not (owns s p e)) not_owner _ tt (λ _. check_elim (In l) s (not (live s p e)) no_live_guard _ tt (λ _. place_in l p (write s p e v) tt tt tt)))
  code_given (Deliver n) = request_in (codes (Deliver n)) Undelivered n (deliver s) tt delivered_in
  code_given (Respond n) = request_in (codes (Respond n)) Answerable n (respond s) tt answered_in
  code_given (Abandon n) = request_in (codes (Abandon n)) Pending n (abandon s) tt (λ _. tt)
  code_given (Lose n) = request_in (codes (Lose n)) Abandoned n (lose s) tt (λ _. tt)
  code_given (Split e) = check_elim (In (codes (Split e))) s (eqb e 0) out_of_range _ tt (λ _. check_elim (In (codes (Split e))) s (eqb (s.store.boundary e) 1) wrong_boundary (set_boundary s e 1) tt (λ _. tt))
  code_given (Merge e) = check_elim (In (codes (Merge e))) s (eqb e 0) out_of_range _ tt (λ _. check_elim (In (codes (Merge e))) s (eqb (s.store.boundary e) 0) wrong_boundary (set_boundary s e 0) tt (λ _. tt))
  code_given (RestartTablet e) = tt
  code_given (RestartPlayer p) = check_elim (In (codes (RestartPlayer p))) s (leb players p) out_of_range (restart_player s p) tt (λ _. tt)
  code_given (FindInterval e) = tt
  code_given (Load e v) = place_in (codes (Load e v)) loader (load s e v) tt tt tt

-- ‘it takes 33's place’: no kind has 33
no_33 : (x : Step) → T (among 33 (codes x)) → ⊥
no_33 (Assign p g) t = t
no_33 (Release g) t = t
no_33 (RequestGuard p g) t = t
no_33 (Read p e) t = t
no_33 (Write p e v) t = t
no_33 (Deliver n) t = t
no_33 (Respond n) t = t
no_33 (Abandon n) t = t
no_33 (Lose n) t = t
no_33 (Split e) t = t
no_33 (Merge e) t = t
no_33 (RestartTablet e) t = t
no_33 (RestartPlayer p) t = t
no_33 (FindInterval e) t = t
no_33 (Load e v) t = t

pub never_33 : (s : State) (x : Step) → (step s x).reply.code ≢ 33
never_33 s x e = no_33 x (subst (λ (n : ℕ). T (among n (codes x))) e (code_given s x))

-- who needs a place
pub record Asker (x : Step) : Type 0 where
  pub player : ℕ
  pub asks : Asks x player

-- 38 is of the steps that need one
pub asker_of : (x : Step) → T (among no_place_left (codes x)) → Asker x
asker_of (Assign p g) t = absurd t
asker_of (Release g) t = absurd t
asker_of (RequestGuard p g) t = record { player = p; asks = a_guard }
asker_of (Read p e) t = record { player = p; asks = a_read }
asker_of (Write p e v) t = record { player = p; asks = a_write }
asker_of (Deliver n) t = absurd t
asker_of (Respond n) t = absurd t
asker_of (Abandon n) t = absurd t
asker_of (Lose n) t = absurd t
asker_of (Split e) t = absurd t
asker_of (Merge e) t = absurd t
asker_of (RestartTablet e) t = absurd t
asker_of (RestartPlayer p) t = absurd t
asker_of (FindInterval e) t = absurd t
asker_of (Load e v) t = record { player = loader; asks = a_load }

-- ‘A player with fewer than 6 rows is never turned away for want of one’, of every step: if whoever asks is such a player, it is not refused 38
pub every_step_let_in : (s : State) (x : Step) → ((p : ℕ) → Asks x p → (p < loader) × (count_by p s.requests < own_places)) → (step s x).reply.code ≢ no_place_left
every_step_let_in s x h e =
    let a = asker_of x (subst (λ (n : ℕ). T (among n (codes x))) e (code_given s x)) in
    let k = h a.player a.asks in
    never_turned_away s a.asks k.0 k.1 e
