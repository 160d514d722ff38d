-- The read counters (document 02 §7: tallies): the counts of one player, how a read is counted, and the share of reads from memory (Model); the
-- words that hold those of eight players, and what the calls do to them (Region); worked cases (Examples).
pub mod Model
pub mod Region
pub mod Examples
