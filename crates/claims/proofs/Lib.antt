pub mod Walking
pub mod Located
pub mod Nexts
pub mod Keeping
pub mod Gathering
