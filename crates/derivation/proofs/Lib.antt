pub mod Children
pub mod Pending
pub mod Walks
pub mod Holding
pub mod Closing
pub mod Beginning
pub mod Taking
pub mod Acting
