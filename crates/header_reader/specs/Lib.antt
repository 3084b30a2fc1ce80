pub mod Known
pub mod Internal
