pub mod Pastes
pub mod Loops
