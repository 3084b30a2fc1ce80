-- What the functions of this crate promise each other and the crates above: checked, and no part of what the documents say.
pub mod Carry
pub mod Kernels
pub mod Row
