pub mod Steps
pub mod Inserted
