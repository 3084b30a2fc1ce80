pub mod HeaderBytes
pub mod HeaderParts
pub mod Prefix
pub mod RoundTrip
