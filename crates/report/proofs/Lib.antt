pub mod Exactly
pub mod Whole
pub mod OneDocument
pub mod Same
pub mod Sizes
