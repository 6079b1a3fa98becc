pub mod Order
pub mod Halves
pub mod Laws
