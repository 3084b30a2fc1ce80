pub mod Calls
pub mod Run
pub mod Encode
pub mod Decode
