pub mod Limits
pub mod Defaults
