pub mod Asked
pub mod Ready
