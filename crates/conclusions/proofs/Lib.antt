pub mod Laws
pub mod Forms
pub mod Labels
pub mod Limits
pub mod Tried
