-- Laws that the functions' proofs, and those of the crates above, cite.
pub mod CountLaws
pub mod WordLaws
pub mod RegionLaws
pub mod CallLaws
