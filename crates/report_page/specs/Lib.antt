pub mod Moves
pub mod Delivered
