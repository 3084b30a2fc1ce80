-- What quantising is, and what the crate's functions promise.
pub mod Finished
pub mod Whole
pub mod Examples
pub mod Internal
