-- Previews among other calls: they are not seen, and what they give is what follows.
-- Assumes nothing.
use mathlib.Core.Path.{◌≡◌, refl, sym, ap, ◌∙◌}
use mathlib.Core.List.{List, [], ◌∷◌}
use Prim.Native.Nat.{ℕ}
use Rattle.players.specs.Played.{Tables}
use Rattle.steps.specs.RunCalls.{ran}
use Rattle.steps.proofs.AfterPreviews.{few_previewed}
use Rattle.linearizable.specs.Calls.{Call, a_step, exported_step, a_run, a_preview, exported_preview, a_run_preview, left_by, after_all}
use Rattle.linearizable.specs.Previews.{without_previews, Given, a_report, given, given_without, PreviewsUnseen, preview_of, Short, GivesPreviewed}

-- one call more, which is no preview
one_more : (u : Tables) (c : Call) (cs ds : List Call) → (given_without (left_by u c) cs ≡ given_without (left_by u c) ds) × (after_all (left_by u c) cs ≡ after_all (left_by u c) ds)
    → (given u c ∷ given_without (left_by u c) cs ≡ given u c ∷ given_without (left_by u c) ds) × (after_all (left_by u c) cs ≡ after_all (left_by u c) ds)
one_more u c cs ds h = (ap (λ (l : List Given). given u c ∷ l) h.0, h.1)

pub previews_unseen : (u : Tables) (cs : List Call) → PreviewsUnseen u cs
unfolding given_without without_previews after_all
previews_unseen u [] = (refl, refl)
previews_unseen u (a_step x ∷ cs) = one_more u (a_step x) cs (without_previews cs) (previews_unseen (left_by u (a_step x)) cs)
previews_unseen u (exported_step k p e h v n ∷ cs) = let c = exported_step k p e h v n in one_more u c cs (without_previews cs) (previews_unseen (left_by u c) cs)
previews_unseen u (a_run session budget list ∷ cs) = let c = a_run session budget list in one_more u c cs (without_previews cs) (previews_unseen (left_by u c) cs)
previews_unseen u (a_preview x ∷ cs) = previews_unseen u cs
previews_unseen u (exported_preview k p e h v n ∷ cs) = previews_unseen u cs
previews_unseen u (a_run_preview session budget list ∷ cs) = previews_unseen u cs

previews_leave : (u : Tables) (ps : List Call) → without_previews ps ≡ [] → after_all u ps ≡ u
unfolding after_all
previews_leave u ps e = (previews_unseen u ps).1 ∙ ap (after_all u) e

-- a call gives what its preview gives
same_given : (u : Tables) (c : Call) → Short c → given u c ≡ given u (preview_of c)
same_given u (a_step x) h = refl
same_given u (exported_step k p e g v n) h = refl
same_given u (a_run session budget list) h =
    ap (λ (b : ℕ). let d = ran u.store u.players session b list in a_report d.report d.list) (sym (few_previewed budget h))
same_given u (a_preview x) h = refl
same_given u (exported_preview k p e g v n) h = refl
same_given u (a_run_preview session budget list) h = refl

pub gives_previewed : (u : Tables) (c : Call) → GivesPreviewed u c
gives_previewed u c h ps e = ap (λ (w : Tables). given w c) (previews_leave u ps e) ∙ same_given u c h
