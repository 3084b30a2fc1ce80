pub mod Sequence
pub mod Model
pub mod Session
pub mod Trace
pub mod Internal
