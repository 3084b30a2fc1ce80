pub mod BodyBytes
pub mod BodyCounts
pub mod Formats
