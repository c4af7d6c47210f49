pub mod Outcomes
pub mod Posing
