-- lists, programs, frontiers, the typed stack
pub mod Relations
pub mod Post
pub mod Rules
pub mod Fronts
pub mod Typed
-- what is asked of a file's tables
pub mod Ready
-- each step keeps the typed stack
pub mod Sound
pub mod Tasks
pub mod Sequences
pub mod Step
-- the run ends
pub mod Rest
pub mod Falls
-- what is found and put; the theorem stands in Right
pub mod Found
pub mod Materialized
pub mod Right
-- what the solver's code relies on
pub mod Loop
-- the counts, and numbers in their widths
pub mod Pruned
pub mod Fitting
pub mod Columns
pub mod Domain
pub mod FirstLeaf
pub mod PageSizes
