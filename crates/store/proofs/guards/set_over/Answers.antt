use Rattle.std.proofs.Common.{arith, ◌∙◌, ◌≡◌, ◌-◌}
use mathlib.Core.Logic.{⊎_elim}
use Rattle.store.specs.Words.{found_in}
use Rattle.store.proofs.WordLaws.{new_words, on_words}
use Rattle.store.proofs.guards.set_over.Goals as goal

-- the interval that holds the entry before the range, or entry 0
before : (c : goal.After-replace) → c.find-before.result ≡ found_in c.args.store.now 0 (c.args.entries.low - 1)
before c = rw c.low-low.ensures.low at (rw c.saturating_sub.ensures at c.find-before.ensures.found)

before-else : (c : goal.After-replace-else-low-gt0) → c.find-before.result ≡ found_in c.args.store.now 0 (c.args.entries.low - 1)
before-else c = rw c.low-low.ensures.low at (rw c.saturating_sub.ensures at c.find-before.ensures.found)

pub returns-then-before-guard : goal.returns-then-before-guard
returns-then-before-guard c =
    let a = c.args in
    let l = c.low-low.ensures.low in
    let h = c.high-high.ensures.high in
    c.replace.ensures ∙ rw (l, h) (new_words a.store.now a.entries.low a.entries.high a.guard _ _ _ (before c) (rw h at c.find-past.ensures.found) c.find-last.ensures.found (rw l at c.if-low-gt0.true) c.if-before-guard.true)

pub returns-else-low-gt0 : goal.returns-else-low-gt0
returns-else-low-gt0 c =
    let a = c.args in
    let l = c.low-low.ensures.low in
    let h = c.high-high.ensures.high in
    c.replace-else-low-gt0.ensures
    ∙ rw h
    (on_words a.store.now a.entries.low a.entries.high a.guard _ _ _ (before-else c) (rw h at c.find-past.ensures.found) c.find-last.ensures.found
    (λ o. ⊎_elim (λ w. w.1) (λ w. absurd (omega (arith, rw l at w))) c.else-low-gt0.either))
