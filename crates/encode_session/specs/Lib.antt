pub mod Model
pub mod Session
pub mod Trace
