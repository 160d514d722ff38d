-- Steps 8, 9 and 13, and all steps that name a request: what they do to a state, and what their code does to a table.
-- Assumes nothing.
use mathlib.Core.Path.{◌≡◌, refl, ap, ◌∙◌}
use mathlib.Core.Bool.{Bool, true, false, cond}
use mathlib.Core.List.{List}
use Prim.Native.Nat.{ℕ, ◌+◌, ◌*◌, ◌<◌}
use native.Mathlib.Omega.{arith}
use lib.ListN.{length, take, drop}
use borrow.Author.Tests.{eq-eqb, ne_eqb, le-leb, lt-leb}
use borrow.Rule.Slice.PartMut.{put_mid}
use Rattle.store.specs.declared.Reply.{Reply}
use Rattle.requests.specs.declared.Request.{Request}
use Rattle.requests.specs.declared.Fit.{Fit}
use Rattle.requests.specs.declared.Fit.TheVariants.{Pending, Abandoned}
use Rattle.requests.specs.Model.{loader, drop_request, change_request, mark_abandoned}
use Rattle.requests.specs.Region.{region_of}
use Rattle.requests.specs.Calls.{At, Nowhere, found, with_abandoned, without, restarted}
use Rattle.requests.proofs.Rising.{each_at}
use Rattle.requests.proofs.RequestRules.{form_of}
use Rattle.requests.proofs.RegionLaws.{Stands, stands_in, nowhere_region, found_stands, found_region, without_region, abandoned_region, given_up, restarted_region}
use Rattle.players.specs.declared.Step.TheVariants.{Abandon, Lose, RestartPlayer}
use Rattle.players.specs.Replies.{refusal}
use Rattle.players.specs.Rules.{fresh_player, State, Result, with_requests, with_player, removed, on_request, abandon, lose, restart_player, step}
use Rattle.players.specs.Table.{players_words, table_of}
use Rattle.players.proofs.Tables.{Ok, few_requests}
use Rattle.steps.specs.InnerWords.{Moves, giving_up, cleared, dropped}
use Rattle.steps.proofs.RunLaws.{within_in}
use Rattle.steps.proofs.StateLaws.{part_of, requests_put, cleared_put}
use Rattle.steps.proofs.DropLaws.{dropped-put}
use Rattle.steps.proofs.MoveLaws.{result, moves, refused, part_is}

-- ---- a step that names a request

module _ (f : Fit) (n : ℕ) (go : State → Request → Result) (t : List ℕ) (l : length t ≡ players_words) where
  abbrev on : State → Result
  on s = on_request s f n (go s)

  -- there is none that it fits
  pub unfit_moves : Nowhere ≡ found f n (take 768 (drop 8705 t)) → (r : Reply) → r ≡ refusal 32 → Moves on t r t
  unfit_moves e r er =
      refused on t l 32 r er
      (λ s o y. nowhere_region s.last s.requests (few_requests o) o.requests f n (result s (refusal 32)) (go s) (e ∙ ap (found f n) (part_is o y)))

  -- there is one
  pub fit_moves : (k : ℕ) (q : Request) → At k q ≡ found f n (take 768 (drop 8705 t)) → (r : Reply) (t' : List ℕ)
      → ((s : State) → Ok s → t ≡ table_of s → Stands q k s.requests → (r ≡ (go s q).reply) × (t' ≡ table_of (go s q).state)) → Moves on t r t'
  fit_moves k q e r t' m =
      moves on t l r t'
      (λ s o y.
      let i : At k q ≡ found f n (region_of s.requests) = e ∙ ap (found f n) (part_is o y) in
      let d : on s ≡ go s q = found_region s.last s.requests (few_requests o) o.requests f n k q i (result s (refusal 32)) (go s) in
      rw d (m s o y (found_stands s.last s.requests (few_requests o) o.requests f n k q i)))

-- the request at place k leaves
module _ {t : List ℕ} {s : State} (o : Ok s) (y : t ≡ table_of s) {k : ℕ} {q : Request} (x : Stands q k s.requests) where
  pub removed_put : (c : List ℕ) → c ≡ without k (take 768 (drop 8705 t)) → put_mid 8705 768 t c ≡ table_of (removed s q)
  removed_put c ec =
      rw y (requests_put s c _ (ec ∙ ap (without k) (part_is o y) ∙ without_region s.last s.requests (few_requests o) o.requests x))

  -- or is abandoned
  pub abandoned_put : (c : List ℕ) → c ≡ with_abandoned k (take 768 (drop 8705 t)) → put_mid 8705 768 t c ≡ table_of (with_requests s (change_request q.serial mark_abandoned s.requests))
  abandoned_put c ec =
      rw y (requests_put s c _ (ec ∙ ap (with_abandoned k) (part_is o y) ∙ abandoned_region s.last s.requests (few_requests o) o.requests x))

-- ---- 9 lose

pub lose_moves : (n : ℕ) (t : List ℕ) → length t ≡ players_words → (k : ℕ) (q : Request) → At k q ≡ found Abandoned n (take 768 (drop 8705 t)) → (c : List ℕ) → c ≡ without k (take 768 (drop 8705 t))
    → (r : Reply) → r ≡ refusal 0 → Moves (λ s. step s (Lose n)) t r (put_mid 8705 768 t c)
lose_moves n t l k q e c ec r er =
    fit_moves Abandoned n lose t l k q e r _ (λ s o y x. (er, removed_put o y x c ec))

-- ---- 8 abandon

-- the code's two ways to give a request up
module _ (k : ℕ) (t c : List ℕ) where
  pub give_up_removed : c ≡ without k (take 768 (drop 8705 t)) → (d : Bool) → d ≡ true → put_mid 8705 768 t c ≡ giving_up k d t
  unfolding giving_up
  give_up_removed ec d ed = rw (ec, ed)

  pub give_up_abandoned : c ≡ with_abandoned k (take 768 (drop 8705 t)) → (d : Bool) → d ≡ false → put_mid 8705 768 t c ≡ giving_up k d t
  unfolding giving_up
  give_up_abandoned ec d ed = rw (ec, ed)

module _ (n : ℕ) (t : List ℕ) (l : length t ≡ players_words) (k : ℕ) (q : Request) (e : At k q ≡ found Pending n (take 768 (drop 8705 t))) (t₁ : List ℕ) (e₁ : t₁ ≡ giving_up k q.delivered t) where
  given : (s : State) (o : Ok s) (y : t ≡ table_of s) → Stands q k s.requests
      → t₁ ≡ table_of (with_requests s (cond q.delivered (drop_request q.serial s.requests) (change_request q.serial mark_abandoned s.requests)))
  unfolding giving_up
  given s o y x = e₁ ∙ cases q.delivered
    where
      cases : (d : Bool) → put_mid 8705 768 t (cond d (without k (take 768 (drop 8705 t))) (with_abandoned k (take 768 (drop 8705 t))))
          ≡ table_of (with_requests s (cond d (drop_request q.serial s.requests) (change_request q.serial mark_abandoned s.requests)))
      cases true = removed_put o y x _ refl
      cases false = abandoned_put o y x _ refl

  pub abandon_other : (q.kind ≡ 5 → ⊥) → (r : Reply) → r ≡ refusal 0 → Moves (λ s. step s (Abandon n)) t r t₁
  abandon_other h r er = fit_moves Pending n abandon t l k q e r t₁ (λ s o y x. (er, rw (ne_eqb q.kind 5 h) (given s o y x)))

  pub abandon_load : q.kind ≡ 5 → 7 < q.player → (r : Reply) → r ≡ refusal 0 → Moves (λ s. step s (Abandon n)) t r t₁
  abandon_load h hp r er =
      fit_moves Pending n abandon t l k q e r t₁
      (λ s o y x.
      let p = (form_of s.last q (each_at _ 0 s.requests o.requests q (stands_in x))).player in
      (er, rw (eq-eqb q.kind 5 h, eq-eqb q.player loader (omega arith)) (given s o y x)))

  pub abandon_write : q.kind ≡ 5 → q.player < 8 → (t' : List ℕ) → t' ≡ dropped q.guard (q.player * 256) 256 t₁ → (r : Reply) → r ≡ refusal 0 → Moves (λ s. step s (Abandon n)) t r t'
  abandon_write h hp t' et r er =
      fit_moves Pending n abandon t l k q e r t'
      (λ s o y x. (
        er,
        rw (eq-eqb q.kind 5 h, ne_eqb q.player loader (λ z. omega arith)) (et ∙ ap (dropped q.guard (q.player * 256) 256) (given s o y x) ∙ dropped-put _ q.player q.guard hp),
      ))

-- ---- 13 restart a player

module _ (t : List ℕ) (l : length t ≡ players_words) (p : ℕ) where
  pub restart_refused : 7 < p → (r : Reply) → r ≡ refusal 28 → Moves (λ s. step s (RestartPlayer p)) t r t
  restart_refused h r er = refused (λ s. step s (RestartPlayer p)) t l 28 r er (λ s _ _. rw (le-leb 8 p h))

  pub restart_moves : p < 8 → (t₁ : List ℕ) → t₁ ≡ cleared (p * 256 + 0) (p * 256 + 256) t → (c : List ℕ) → c ≡ restarted p (take 768 (drop 8705 t₁)) → (r : Reply) → r ≡ refusal 0
      → Moves (λ s. step s (RestartPlayer p)) t r (put_mid 8705 768 t₁ c)
  restart_moves hp t₁ e₁ c ec r er =
      moves (λ s. step s (RestartPlayer p)) t l r _
      (λ s o y.
      let s₁ = with_player s p fresh_player in
      let y₁ : t₁ ≡ table_of s₁ =
      e₁ ∙ ap (cleared (p * 256 + 0) (p * 256 + 256)) y
      ∙ cleared_put s p hp 0 256 (omega arith) (omega arith) fresh_player (λ x h. rw (within_in 0 256 x (omega arith) h)) (λ x h. rw (within_in 0 256 x (omega arith) h)) in
      let d : step s (RestartPlayer p) ≡ restart_player s p = rw (lt-leb 8 p hp) in
      let c_is : c ≡ region_of (given_up p s.requests) = ec ∙ ap (λ (u : List ℕ). restarted p (take 768 (drop 8705 u))) y₁ ∙ ap (restarted p) (part_of s₁) ∙ restarted_region s.last s.requests (few_requests o) o.requests p in
      rw d (er, rw y₁ (requests_put s₁ c (given_up p s.requests) c_is)))
