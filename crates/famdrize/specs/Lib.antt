-- The calls for programs in other languages: the step of six numbers (Fields), what each call does (Calls), and worked cases (Examples).
pub mod Fields
pub mod Calls
pub mod Examples
