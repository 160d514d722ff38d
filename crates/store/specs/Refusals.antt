-- The number of each refusal, in all of the crates.
-- Assumes nothing.
use Rattle.std.specs.Prelude.{ℕ}
use Rattle.store.specs.declared.refusal.Refusal.{Refusal}
use Rattle.store.specs.declared.refusal.Refusal.TheVariants.{WrongLength, BrokenRule, NoMark, CutShort, UnknownField, UnknownKind, WrongFields, OutOfRange, NotOwner, NoLiveGuard, AlreadyRequested, NoSuchRequest, NoSerialLeft, WrongBoundary, BufferShort, TooLong, NoPlaceLeft, NoAnsweredRead}

-- as docs/RULES.md lists them; 33 is no refusal's number since 38 took its place
abbrev pub number_of : Refusal → ℕ
number_of WrongLength = 21
number_of BrokenRule = 22
number_of NoMark = 23
number_of CutShort = 24
number_of UnknownField = 25
number_of UnknownKind = 26
number_of WrongFields = 27
number_of OutOfRange = 28
number_of NotOwner = 29
number_of NoLiveGuard = 30
number_of AlreadyRequested = 31
number_of NoSuchRequest = 32
number_of NoSerialLeft = 34
number_of WrongBoundary = 35
number_of BufferShort = 36
number_of TooLong = 37
number_of NoPlaceLeft = 38
number_of NoAnsweredRead = 39
