use Rattle.std.proofs.Common.{◌≡◌, refl, sym, ◌∙◌, ℕ, List, get_or, true}
use Rattle.std.specs.Prelude.{leb}
use borrow.Author.Tests.{le-leb, lt-leb}
use Rattle.requests.specs.Region.{words_fit}
use Rattle.requests.proofs.Basics.{clash}
use Rattle.requests.proofs.rules.words_fit.Goals.{then-place-from, else-place-from, then-place-le255, else-place-le255, then-place-le255-2, else-place-le255-2, then-place-le65535, else-place-le65535, then-place-le1, else-place-le1}
use Rattle.requests.proofs.rules.words_fit.Goals as goal

-- where the other words fit, the last mark is left
mark_left :
    (w : List ℕ) → leb (get_or w 1 0) 8 ≡ true → leb (get_or w 2 0) 255 ≡ true → leb (get_or w 3 0) 255 ≡ true → leb (get_or w 4 0) 65535 ≡ true
    → leb (get_or w 7 0) 1 ≡ true → leb (get_or w 8 0) 1 ≡ true → leb (get_or w 9 0) 1 ≡ words_fit w
unfolding words_fit
mark_left w a b d e f g = rw (a, b, d, e, f, g) refl

pub returns-then-place-le1-2 : goal.returns-then-place-le1-2
returns-then-place-le1-2 c =
    let w = c.args.place.now in
    let g : leb (get_or w 8 0) 1 ≡ true × c.if-place-le65535.value ≡ true = elim c.if-place-le1.branch [
      | then-place-le1 b ↦ (sym b.value-is ∙ c.if-place-le1-2.true, b.if-place-le1.true)
      | else-place-le1 b ↦ clash c.if-place-le1-2.true (b.value-is ∙ b.if-place-le1.false)
    ] in
    let f : leb (get_or w 7 0) 1 ≡ true × c.if-place-le255-2.value ≡ true = elim c.if-place-le65535.branch [
      | then-place-le65535 b ↦ (sym b.value-is ∙ g.1, b.if-place-le65535.true)
      | else-place-le65535 b ↦ clash g.1 (b.value-is ∙ b.if-place-le65535.false)
    ] in
    let e : leb (get_or w 4 0) 65535 ≡ true × c.if-place-le255.value ≡ true = elim c.if-place-le255-2.branch [
      | then-place-le255-2 b ↦ (sym b.value-is ∙ f.1, b.if-place-le255-2.true)
      | else-place-le255-2 b ↦ clash f.1 (b.value-is ∙ b.if-place-le255-2.false)
    ] in
    let d : leb (get_or w 3 0) 255 ≡ true × c.if-place-from.value ≡ true = elim c.if-place-le255.branch [
      | then-place-le255 b ↦ (sym b.value-is ∙ e.1, b.if-place-le255.true)
      | else-place-le255 b ↦ clash e.1 (b.value-is ∙ b.if-place-le255.false)
    ] in
    elim c.if-place-from.branch [
      | then-place-from b ↦ mark_left w (rw c.from.ensures at (le-leb (get_or w 1 0) c.from.result b.if-place-from.true)) (sym b.value-is ∙ d.1) d.0 e.0 f.0 g.0
      | else-place-from b ↦ clash d.1 (b.value-is ∙ lt-leb (get_or w 1 0) c.from.result b.if-place-from.false)
    ]
