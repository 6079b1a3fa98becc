pub mod Sums
pub mod Costs
pub mod SumLaws
pub mod WholeCost
