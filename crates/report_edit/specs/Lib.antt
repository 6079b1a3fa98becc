pub mod Edits
pub mod RowLaws
