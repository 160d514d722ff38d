-- Laws that the functions' proofs, and those of the crates above, cite.
pub mod Regions
pub mod Tables
pub mod FreshLaws
pub mod RunningNumbers
pub mod CheckLaws
pub mod StepFacts
pub mod Kept
pub mod StepCases
pub mod KindLaws
pub mod CallLaws
pub mod ReadShareLaws
pub mod IntervalLaws
pub mod LoadLaws
pub mod ShareLaws
pub mod CodeLaws
pub mod Refusals
pub mod PlayedLaws
