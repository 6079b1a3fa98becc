pub mod Kinds
pub mod Tests
pub mod Pairs
pub mod Nodes
pub mod Numbers
pub mod Texts
pub mod Form
pub mod Faults
