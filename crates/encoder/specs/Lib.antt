pub mod File
pub mod Write
pub mod Make
pub mod Internal
