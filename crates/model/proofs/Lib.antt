pub mod Numbers
pub mod Tested
pub mod Settling
pub mod Answering
