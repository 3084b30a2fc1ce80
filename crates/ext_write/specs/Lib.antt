pub mod Write
pub mod Ceiling
pub mod Internal
