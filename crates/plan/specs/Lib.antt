pub mod Records
pub mod Arena
pub mod Layouts
pub mod Uses
