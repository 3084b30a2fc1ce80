pub mod Info
pub mod Sniff
pub mod Internal
