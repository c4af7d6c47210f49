pub mod Signed
pub mod Finding
pub mod Fields
pub mod Placing
