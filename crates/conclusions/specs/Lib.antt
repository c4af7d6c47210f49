pub mod Labels
pub mod Made
pub mod Sums
