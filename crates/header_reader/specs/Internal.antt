-- What the functions of this crate promise each other and the crates above: checked, and no part of what the documents say.
pub mod Machine
pub mod Phase
pub mod Pieces
pub mod Standing
pub mod Represents
pub mod Run
