-- Worked cases of a step by its numbers: kind, player, entry or low, high, value, serial.
-- Assumes nothing.
use Rattle.std.specs.Prelude.{◌≡◌, refl, [], ◌∷◌, map, ◌+◌}
use Rattle.players.specs.declared.Step.TheVariants.{Assign, Release, Write, Deliver, RestartPlayer, FindInterval}
use Rattle.players.specs.Cases.{range}
use Rattle.players.specs.Kinds.{last_kind, map_of, step_of, spread}
use Rattle.session.specs.Layout.{record_length, fields_length, fields}
use Rattle.session.specs.Records.{unknown_kind, wrong_fields, tested, decode}
use Rattle.session.specs.Fields.{standing, six}
use Rattle.famdrize.specs.Fields.{Taken, Refused}
use Rattle.famdrize.specs.Fields.{others_zero, stated}
use Rattle.famdrize.specs.Calls.{decoded}

-- steps, also ones that a table refuses: player 9, an empty range
pub taken_case :
    map stated (six 1 7 40 60 0 0 ∷ six 1 9 60 60 0 0 ∷ six 2 0 40 60 0 0 ∷ six 5 1 45 0 7 0 ∷ six 6 0 0 0 0 2 ∷ six 13 3 0 0 0 0 ∷ six 14 0 45 0 0 0 ∷ [])
    ≡ Taken (Assign 7 (range 40 60)) ∷ Taken (Assign 9 (range 60 60)) ∷ Taken (Release (range 40 60)) ∷ Taken (Write 1 45 7) ∷ Taken (Deliver 2) ∷ Taken (RestartPlayer 3) ∷ Taken (FindInterval 45) ∷ []
unfolding stated standing others_zero map_of step_of
taken_case = refl

-- kinds 0, the one after the last, and 255; then a field that the kind lacks: a release's player, a read's high, a write's serial, a split's value, the player
-- of step 14
pub refused_case :
    map stated (six 0 0 0 0 0 0 ∷ six (last_kind + 1) 0 0 0 0 0 ∷ six 255 1 1 1 1 1 ∷ six 2 1 40 60 0 0 ∷ six 4 1 45 46 0 0 ∷ six 5 1 45 0 7 1 ∷ six 10 0 45 0 1 0 ∷ six 14 1 45 0 0 0 ∷ [])
    ≡ Refused unknown_kind ∷ Refused unknown_kind ∷ Refused unknown_kind ∷ Refused wrong_fields ∷ Refused wrong_fields ∷ Refused wrong_fields ∷ Refused wrong_fields ∷ Refused wrong_fields ∷ []
unfolding stated standing others_zero map_of step_of
refused_case = refl

-- a write, a release and a step of kind 14, with a byte after each, and three refusals: no byte, and kinds not in force
pub decoded_case :
    map (λ s. decoded (decode s))
    ((0x17 ∷ 5 ∷ 1 ∷ 45 ∷ 7 ∷ 0 ∷ 0 ∷ 1 ∷ 99 ∷ []) ∷ (0x0D ∷ 2 ∷ 40 ∷ 0 ∷ 1 ∷ 99 ∷ []) ∷ (0x05 ∷ 14 ∷ 45 ∷ 99 ∷ []) ∷ [] ∷ (0x01 ∷ 0xC8 ∷ []) ∷ (0x05 ∷ 23 ∷ 45 ∷ []) ∷ [])
    ≡ (0 ∷ 8 ∷ 5 ∷ 1 ∷ 45 ∷ 0 ∷ 16777223 ∷ 0 ∷ []) ∷ (0 ∷ 5 ∷ 2 ∷ 0 ∷ 40 ∷ 256 ∷ 0 ∷ 0 ∷ []) ∷ (0 ∷ 3 ∷ 14 ∷ 0 ∷ 45 ∷ 0 ∷ 0 ∷ 0 ∷ []) ∷ (24 ∷ 0 ∷ 0 ∷ 0 ∷ 0 ∷ 0 ∷ 0 ∷ 0 ∷ []) ∷ (26 ∷ 0 ∷ 0 ∷ 0 ∷ 0 ∷ 0 ∷ 0 ∷ 0 ∷ []) ∷ (26 ∷ 0 ∷ 0 ∷ 0 ∷ 0 ∷ 0 ∷ 0 ∷ 0 ∷ []) ∷ []
unfolding spread tested fields record_length fields_length map_of step_of
decoded_case = refl
