-- Definitions: Mem, Tree, Members, Holds, Links. Theorems: the others.
pub mod Mem
pub mod Tree
pub mod Members
pub mod Holds
pub mod Links
pub mod MemLaws
pub mod TreeLaws
pub mod Frames
pub mod Slots
pub mod Near
pub mod LinkLaws
