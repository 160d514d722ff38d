use Rattle.std.proofs.Common.{rules, tests, eqb, refl, ◌∙◌}
use Rattle.std.proofs.lemmas.Iterator.{YieldsList-from_slice}
use Rattle.std.proofs.lemmas.Iterator.Search.{position_from_yields_List}
use Rattle.store.proofs.Searches.{position_or_len_le, unwrapped_position}
use Rattle.store.proofs.words.place_of.Goals as goal

pub returns-clause-place : goal.returns-clause-place
returns-clause-place c =
    let a = c.args in
    c.unwrap_or.ensures
    ∙ unwrapped_position (λ w. eqb w a.word) a.part.now _ _ refl
    (position_from_yields_List (λ w. eqb w a.word) _ _ c.position-place.result c.position-place.ensures.ran (YieldsList-from_slice a.part.now cc) (λ x b q k. search (rules, tests)))

pub returns-clause-within : goal.returns-clause-within
returns-clause-within c = rw (returns-clause-place c) (position_or_len_le _ c.args.part.now)
