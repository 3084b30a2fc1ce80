-- The laws that several proofs cite.
pub mod Signed
pub mod HeldRange
pub mod CarryRead
pub mod DitherDotsLoop
pub mod ResidualFreeBytes
pub mod RowKept
pub mod DitherBytesLoop
pub mod ResidualRange
