use Rattle.std.proofs.Common.{rules, tests, eqb, ltb, refl, ◌∙◌}
use Rattle.std.specs.Prelude.{◌||◌}
use Rattle.std.proofs.lemmas.Iterator.{YieldsList-from_slice}
use Rattle.std.proofs.lemmas.Iterator.Search.{position_from_yields_List}
use Rattle.store.proofs.Searches.{unwrapped_position, place_is}
use Rattle.store.proofs.guards.count_begun.Goals as goal

pub returns-clause-count : goal.returns-clause-count
returns-clause-count c =
    let a = c.args in
    c.unwrap_or.ensures
    ∙ unwrapped_position (λ s. eqb s 0 || ltb a.entry s) a.starts.now _ _ refl
    (position_from_yields_List (λ s. eqb s 0 || ltb a.entry s) _ _ c.position-next.result c.position-next.ensures.ran (YieldsList-from_slice a.starts.now cc) (λ x b q k. search (rules, tests)))
    ∙ place_is a.entry a.starts.now
