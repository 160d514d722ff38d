-- What is told of places follows from the first of them, by the words that a place is split off as.
use Rattle.std.proofs.Common.{◌≡◌, ◌≢◌, ℕ, suc, ◌/◌, ◌<◌, ◌≤◌, List, [], ◌∷◌, length, drop, take, get_or, sym, ◌∙◌, ap, arith, length-drop, get_or-take}
use Rattle.std.proofs.lemmas.Grind.{common_steps}
use Rattle.std.specs.Prelude.{Bool, true, ◌&&◌, ltb, ◌++◌}
use Rattle.std.proofs.Math.Seq.{take-set-lt}
use borrow.Author.Tests.{ne_eqb}
use Rattle.store.specs.Table.{at_most}
use Rattle.requests.specs.declared.Request.{Request}
use Rattle.requests.specs.Region.{request_of, requests_from, requests_in, requests_of, request_holds, words_fit, places_hold}
use Rattle.requests.proofs.Placed.{requests_few}
use Rattle.requests.specs.Calls.{overlapped_words, overlapped_from}

-- the place that stands first, by its own words
pub request_of-take : (w : List ℕ) → 12 ≤ length w → request_of (take 12 w) ≡ request_of w
unfolding request_of
request_of-take w h = grind (arith, common_steps, get_or-take {A = ℕ})

pub words_fit-take : (w : List ℕ) → 12 ≤ length w → words_fit (take 12 w) ≡ words_fit w
unfolding words_fit
words_fit-take w h = grind (arith, common_steps, get_or-take {A = ℕ})

-- a whole place is left, or none
module _ (w : List ℕ) where
  none : length w < 12 → length w / 12 ≡ 0
  none h = omega arith

  one : 12 ≤ length w → length w / 12 ≡ suc (length (drop 12 w) / 12)
  one h = omega (arith, length-drop 12 w)

  -- of a place split off, and the rest
  module _ (place : List ℕ) (h : 12 ≤ length w) (is : place ≡ take 12 w) where
    pub first_unused : get_or place 0 0 ≡ 0 → get_or w 0 0 ≡ 0
    first_unused z = sym (get_or-take 12 w 0 0 (omega arith)) ∙ (ap (λ p. get_or p 0 0) (sym is) ∙ z)

    pub first_used : get_or place 0 0 ≢ 0 → get_or w 0 0 ≢ 0
    first_used z e = z (ap (λ p. get_or p 0 0) is ∙ get_or-take 12 w 0 0 (omega arith) ∙ e)

    -- the requests
    pub requests_in-unused : get_or place 0 0 ≡ 0 → requests_in w ≡ []
    unfolding requests_from
    requests_in-unused z = let e = one h in let f = first_unused z in rw (e, f)

    pub requests_in-used : get_or place 0 0 ≢ 0 → requests_in w ≡ request_of place ∷ requests_in (drop 12 w)
    unfolding requests_from
    requests_in-used z =
        let e = one h in
        let f = first_used z in
        rw (e, is, request_of-take w h) (grind (arith, common_steps, f))

    -- the rules
    pub places_hold-unused : (n p : ℕ) → get_or place 0 0 ≡ 0 → places_hold n p (length w / 12) w ≡ at_most 0 w
    unfolding places_hold
    places_hold-unused n p z = let e = one h in let f = first_unused z in rw (e, f)

    pub places_hold-used : (n p : ℕ) → get_or place 0 0 ≢ 0 → places_hold n p (length w / 12) w
        ≡ (ltb p (get_or place 0 0) && (words_fit place && (request_holds n (request_of place) && places_hold n (get_or place 0 0) (length (drop 12 w) / 12) (drop 12 w))))
    unfolding places_hold
    places_hold-used n p z =
        let e = one h in
        let f = first_used z in
        let g = get_or-take {A = ℕ} 12 w 0 0 (omega arith) in
        rw (e, is, request_of-take w h, words_fit-take w h, g) (grind (arith, common_steps, f))

    -- the marks
    module _ (f : Request → Bool) (rest : List ℕ) (after : rest ≡ drop 12 w) where
      pub overlapped-unused : get_or place 0 0 ≡ 0 → place ++ rest ≡ overlapped_from f (length w / 12) w
      unfolding overlapped_from
      overlapped-unused z =
          let e = one h in
          let k = first_unused z in
          rw (e, k, is, after) (grind (arith, common_steps))

      pub overlapped-used : get_or place 0 0 ≢ 0 → overlapped_words f place ++ overlapped_from f (length rest / 12) rest ≡ overlapped_from f (length w / 12) w
      unfolding overlapped_from
      overlapped-used z =
          let e = one h in
          let k = first_used z in
          rw (e, is, after, request_of-take w h) (grind (arith, common_steps, k, take-set-lt 12 w 7 1))

  pub requests_in-short : length w < 12 → requests_in w ≡ []
  unfolding requests_from
  requests_in-short h = let e = none h in rw e

  pub places_hold-short : (n p : ℕ) → length w < 12 → places_hold n p (length w / 12) w ≡ true
  unfolding places_hold
  places_hold-short n p h = let e = none h in rw e

  pub overlapped-short : (f : Request → Bool) → length w < 12 → overlapped_from f (length w / 12) w ≡ w
  unfolding overlapped_from
  overlapped-short f h = let e = none h in rw e

  -- the requests of a whole region
  pub requests_of-whole : length w ≡ 768 → requests_of w ≡ requests_in w
  unfolding requests_of
  requests_of-whole h = rw h

  pub requests_of-other : length w ≢ 768 → requests_of w ≡ []
  unfolding requests_of
  requests_of-other h = rw (ne_eqb (length w) 768 h)

  pub requests_of-length : length (requests_of w) ≤ 64
  requests_of-length = requests_few w
