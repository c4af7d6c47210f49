pub mod Stacks
pub mod Taking
pub mod Low
pub mod Refusals
pub mod Reports
pub mod Walking
pub mod Ends
pub mod Starts
