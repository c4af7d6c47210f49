pub mod Laws
pub mod Filling
pub mod Growing
pub mod Resting
pub mod Standing
