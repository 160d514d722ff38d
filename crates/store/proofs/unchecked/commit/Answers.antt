use Rattle.std.proofs.Common.{arith, ap, sym, ◌∙◌}
use Rattle.store.specs.Words.{commit_words}
use Rattle.store.specs.declared.Span.{Span}
use Rattle.store.proofs.CallLaws.{tested_whole, whole_length, commit_other, commit_same}
use Rattle.store.proofs.unchecked.commit.Goals as goal

pub returns-then-not-matches : goal.returns-then-not-matches
returns-then-not-matches c =
    let a = c.args in
    let u = c.in-Some.store.now in
    let f = rw c.from.ensures at c.find-found.ensures.found in
    tested_whole (commit_words a.entry a.value a.serial a.guard) _ u c.in-Some.ensures.cases _
    (commit_other u a.entry (whole_length _ u c.in-Some.ensures.cases) (omega arith) a.value a.serial a.guard _ (ap (λ (x : Span). x.guard) f) (sym c.matches.ensures ∙ c.if-not-matches.true))

pub returns : goal.returns
returns c =
    let a = c.args in
    let u = c.in-Some.store.now in
    let f = rw c.from.ensures at c.find-found.ensures.found in
    tested_whole (commit_words a.entry a.value a.serial a.guard) _ u c.in-Some.ensures.cases _
    (rw c.from-e.ensures (commit_same u a.entry (whole_length _ u c.in-Some.ensures.cases) (omega arith) a.value a.serial a.guard _ (ap (λ (x : Span). x.guard) f) (sym c.matches.ensures ∙ c.if-not-matches.false)))
