-- Laws: the tests of a record (Tested), its fields (FieldLaws), steps by kind and fields (StepLaws), both directions (RoundTrip), putting
-- the bytes of a record (EncodeLaws), writing to a buffer (WriteLaws), the mark (MarkLaws), a run (RunLaws), text (TextLaws), what a refusal leaves (Refusals), the numbers of kinds (KindCodes).
pub mod Tested
pub mod FieldLaws
pub mod StepLaws
pub mod RoundTrip
pub mod EncodeLaws
pub mod WriteLaws
pub mod MarkLaws
pub mod RunLaws
pub mod TextLaws
pub mod Refusals
pub mod KindCodes
