pub mod Lists
pub mod Turns
pub mod Spans
pub mod Whole
pub mod Pairs
