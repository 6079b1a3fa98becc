pub mod Enough
pub mod Just
pub mod Balance
