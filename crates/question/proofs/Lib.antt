pub mod Loops
pub mod Texts
pub mod Literals
pub mod Columns
pub mod Constraints
pub mod Posed
pub mod Refusals
