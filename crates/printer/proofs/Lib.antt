pub mod Deliveries
pub mod Made
pub mod Parts
pub mod Second
