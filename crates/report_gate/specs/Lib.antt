pub mod Heads
pub mod Gates
