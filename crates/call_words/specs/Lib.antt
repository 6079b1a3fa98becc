pub mod Words
pub mod Heads
pub mod Accounts
pub mod Again
