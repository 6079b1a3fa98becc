-- definitions
pub mod Report
pub mod Answers
pub mod Right
pub mod Memory
-- theorems
pub mod Lists
pub mod Exactly
pub mod Whole
pub mod Same
pub mod Sizes
pub mod Filed
pub mod Cases
