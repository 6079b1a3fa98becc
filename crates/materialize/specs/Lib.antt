pub mod Rows
pub mod Texts
pub mod Answer
pub mod Walks
pub mod Writes
