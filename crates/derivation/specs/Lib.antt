pub mod State
pub mod Ok
pub mod Actions
