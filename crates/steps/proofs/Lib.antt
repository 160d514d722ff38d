-- Laws that the functions' proofs cite; and of refusals (Refusals), of what follows a preview (AfterPreviews), and of a preview beside the whole run
-- (PreviewedRuns).
pub mod WordLaws
pub mod RunLaws
pub mod TableLaws
pub mod StateLaws
pub mod DropLaws
pub mod MoveLaws
pub mod AnswerLaws
pub mod OwnershipLaws
pub mod IssuingLaws
pub mod LeavingLaws
pub mod RespondLaws
pub mod StoreStepLaws
pub mod JoinLaws
pub mod LoopLaws
pub mod RunningLaws
pub mod RanLaws
pub mod FreshRuns
pub mod PreviewLaws
pub mod AfterPreviews
pub mod PreviewedRuns
pub mod Refusals
