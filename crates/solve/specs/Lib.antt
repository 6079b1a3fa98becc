pub mod Accepted
pub mod Outcome
pub mod Accepts
pub mod Numbered
pub mod Numbers
