-- The first read from memory (document 02 §6): the promise by the rules (Promise), of the steps as one list (Lines), of the tables themselves, of runs over
-- session bytes and of any calls (Calls); the promise tried, and that each thing supposed is needed (Examples).
pub mod Promise
pub mod Lines
pub mod Calls
pub mod Examples
