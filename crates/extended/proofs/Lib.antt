pub mod Loops
pub mod Numerals
pub mod Cases
