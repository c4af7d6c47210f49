pub mod Open
pub mod Ends
pub mod Models
pub mod AtModel
pub mod Claiming
