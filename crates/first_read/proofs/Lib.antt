-- The proof of the promise.
-- Small facts: what a test keeps of lists of requests (Lists), tests of a range (Ranges), that serials only grow (Serials).
-- What the steps of others leave alone (Frame), what each step of the player comes to (OwnSteps), and from these the promise, by the rules (Theorem), from fresh tables on
-- (FreshTheorem), of the steps as one list (LineTheorem), of tables, runs and any calls (CallsTheorem).
pub mod Lists
pub mod Ranges
pub mod Serials
pub mod Frame
pub mod OwnSteps
pub mod Theorem
pub mod FreshTheorem
pub mod LineTheorem
pub mod CallsTheorem
