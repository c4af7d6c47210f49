pub mod Totals
pub mod Division
pub mod Summing
pub mod Equations
