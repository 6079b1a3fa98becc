pub mod Ordered
pub mod Answered
pub mod Halves
pub mod Pages
pub mod Stages
pub mod Readiness
pub mod FromFile
pub mod Renders
