-- Laws that the functions' proofs, and those of the crates above, cite.
pub mod Basics
pub mod Rising
pub mod ShareLaws
pub mod CountLaws
pub mod RequestRules
pub mod WordLaws
pub mod Placed
pub mod ScanLaws
pub mod CrossLaws
pub mod RestartLaws
pub mod CallLaws
pub mod RegionLaws
pub mod LentLaws
pub mod Runs
pub mod FirstPlace
