pub mod Progress
pub mod Standing
pub mod Posed
pub mod Columns
pub mod Texts
