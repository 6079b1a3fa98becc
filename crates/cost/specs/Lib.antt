pub mod Cost
pub mod Charge
pub mod Value
pub mod Logic
pub mod Order
pub mod Rising
pub mod Cases
