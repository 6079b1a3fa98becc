-- the rule
pub mod Document
pub mod Rules
pub mod Layout
pub mod Spans
pub mod SpanWords
pub mod Choice
pub mod Table
pub mod Cheapest
-- what is asked of tables and of rules
pub mod References
pub mod Lawful
-- candidates and frontiers
pub mod Running
pub mod Frontier
pub mod Pruning
-- theorems
pub mod Charging
pub mod Sieve
pub mod Through
pub mod Listed
pub mod Covers
pub mod Moved
pub mod Telescope
pub mod Left
pub mod Members
pub mod First
pub mod Reading
pub mod Nesting
pub mod Report
pub mod Cases
