-- what the program writes
pub mod Printed
pub mod Shown
-- theorems
pub mod Right
pub mod Cases
