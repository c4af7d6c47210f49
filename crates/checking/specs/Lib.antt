pub mod Outcomes
pub mod Theory
