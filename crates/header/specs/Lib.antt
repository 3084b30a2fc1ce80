pub mod Settings
pub mod Read
pub mod Write
pub mod Internal
