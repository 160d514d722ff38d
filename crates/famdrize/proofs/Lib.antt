-- Laws: a step by its six numbers (FieldLaws), a call by them (CallLaws), the numbers of a record (RecordLaws), and what a refusal leaves (Refusals).
pub mod FieldLaws
pub mod CallLaws
pub mod RecordLaws
pub mod Refusals
