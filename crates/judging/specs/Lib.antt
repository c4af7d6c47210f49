pub mod Ready
pub mod Judgements
pub mod Parts
