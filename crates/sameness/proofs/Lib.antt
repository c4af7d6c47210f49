pub mod Facts
pub mod Records
pub mod Occurrences
pub mod Outcomes
