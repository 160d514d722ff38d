-- The proof of the claim: what each step adds (StepCounts), how many steps a session stands for (FewSteps), and from these the claim, by the rules (Theorem), of runs
-- and any calls (CallsTheorem). And that nothing else depends on the counters (Unseen).
pub mod StepCounts
pub mod FewSteps
pub mod Theorem
pub mod CallsTheorem
pub mod Unseen
