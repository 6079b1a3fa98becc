-- Definitions: Candidates, Chain, Kept; Passed passes the links on. Theorems: Walk, Letter.
pub mod Candidates
pub mod Chain
pub mod Kept
pub mod Walk
pub mod Letter
pub mod Passed
