pub mod Kinds
pub mod Classes
pub mod Read
pub mod Find
pub mod Internal
