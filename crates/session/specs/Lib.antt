-- A session: the layout of a record (Layout), the six numbers of a step as they are handed over (Fields), the kinds in force as an enum (Kinds), the decoder's answer (Decoded), a run's report (Reports), what a record's bytes mean (Records), what writing to a buffer does
-- (Written), the session's mark (Mark), a run (Runs), the document's cases (Cases), the text of a listing (Listing), and what the private
-- functions that write bytes to a line do (Text).
pub mod Layout
pub mod Fields
pub mod Kinds
pub mod Decoded
pub mod Reports
pub mod Records
pub mod Written
pub mod Mark
pub mod Runs
pub mod Cases
pub mod Listing
pub mod Text
