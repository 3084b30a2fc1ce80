-- What the functions of this crate promise each other and the crates above: checked, and no part of what the documents say.
pub mod Entry
pub mod Held
pub mod Kernels
pub mod Planes
pub mod Row
pub mod Words
