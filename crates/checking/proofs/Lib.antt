pub mod Promises
pub mod Theory
