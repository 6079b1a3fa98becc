mod Counting
pub mod Calling
pub mod Isolation
pub mod Layer
