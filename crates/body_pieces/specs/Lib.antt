pub mod InFormat
pub mod Internal
