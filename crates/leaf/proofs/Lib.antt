pub mod Settling
pub mod Signed
pub mod Laws
pub mod Pairs
