-- What the functions of this crate promise each other and the crates above: checked, and no part of what the documents say.
pub mod Sums
pub mod Rows
pub mod RowByRow
pub mod Flow
pub mod Pairs
