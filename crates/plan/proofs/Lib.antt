pub mod Commit
pub mod Cases
