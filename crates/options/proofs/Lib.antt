pub mod Ceilings
pub mod Examples
