pub mod Lines
pub mod Put
pub mod Pages
pub mod Buffers
pub mod Reports
