-- what a call answers
pub mod Answer
pub mod Page
-- theorems
pub mod Ready
pub mod Faults
pub mod Exactly
pub mod Demand
pub mod Filed
pub mod Worked
pub mod Starred
pub mod Cases
