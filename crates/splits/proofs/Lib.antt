pub mod Neighbours
pub mod Pairs
pub mod Forms
pub mod Operands
pub mod Limits
