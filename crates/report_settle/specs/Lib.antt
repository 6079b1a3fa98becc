pub mod Verdicts
pub mod Settled
