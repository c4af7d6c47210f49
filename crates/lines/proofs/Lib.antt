pub mod Puts
pub mod Lines
pub mod Answers
pub mod Reporting
