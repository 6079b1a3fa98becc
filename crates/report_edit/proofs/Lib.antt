pub mod Spliced
pub mod Edited
