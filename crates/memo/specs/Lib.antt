pub mod Hash
pub mod Sizes
pub mod Entries
pub mod Index
pub mod Cases
