pub mod Constraints
pub mod Tested
pub mod Functions
pub mod Unmet
pub mod Summing
pub mod Outcomes
pub mod Parts
pub mod Theory
