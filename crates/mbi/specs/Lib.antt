pub mod Bytes
pub mod Read
pub mod Internal
