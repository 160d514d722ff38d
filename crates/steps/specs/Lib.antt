-- The replies of steps by name (Answers). What a run does to the two tables and to the list for replies (RunCalls), and what previews give (Previews). What only private functions do
-- stands apart: the words of the players' table that they read and write (InnerWords), step 7 (InnerRespond), the steps on the store's table and
-- step 6 (InnerStore), and what a run that is not refused is given (InnerRun). What `steps::step` does is in players, specs/Calls.
pub mod Answers
pub mod RunCalls
pub mod Previews
pub mod InnerWords
pub mod InnerRespond
pub mod InnerStore
pub mod InnerRun
