pub mod Leaf
pub mod Values
