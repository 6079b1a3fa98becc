pub mod Wholes
pub mod Costs
pub mod Settling
pub mod Altering
