pub mod Puts
pub mod Words
pub mod Left
pub mod Going
