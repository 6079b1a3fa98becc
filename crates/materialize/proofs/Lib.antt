pub mod Runs
pub mod Moves
pub mod Turns
pub mod Untested
pub mod Passes
pub mod Parts
pub mod Written
