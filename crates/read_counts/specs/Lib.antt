-- Share of reads from memory (document 02 §7): that the counters are the numbers of replies, by the rules (Claim), of the tables themselves, of runs over session
-- bytes and of any calls (Calls); the claim tried (Examples).
pub mod Claim
pub mod Calls
pub mod Examples
