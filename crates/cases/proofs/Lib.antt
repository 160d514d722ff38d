-- The wrong programs that document 01 names and wrong readings of document 02, each against the promise of a step or a run (WrongPrograms), or of
-- a preview (WrongPreviews).
pub mod WrongPrograms
pub mod WrongPreviews
