-- Laws: a line put at a place of the text, and the lines of a list of replies (LineLaws), the listing of a session (PrintedLaws).
pub mod LineLaws
pub mod PrintedLaws
