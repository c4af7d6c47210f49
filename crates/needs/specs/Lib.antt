pub mod Pending
pub mod Steps
pub mod Outcomes
