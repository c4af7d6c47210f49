pub mod Read
pub mod Columns
pub mod Bounds
