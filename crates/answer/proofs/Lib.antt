pub mod Demand
pub mod Filed
pub mod Worked
pub mod Cases
pub mod Starred
pub mod Exactly
