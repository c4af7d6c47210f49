pub mod Chains
pub mod Branches
pub mod Tags
pub mod Forms
pub mod Small
pub mod Tested
pub mod Values
