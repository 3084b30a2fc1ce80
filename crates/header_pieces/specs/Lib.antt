pub mod Extension
pub mod Internal
