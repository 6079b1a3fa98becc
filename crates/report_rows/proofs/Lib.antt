pub mod Sums
pub mod Removed
pub mod Costs
