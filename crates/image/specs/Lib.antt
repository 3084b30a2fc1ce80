pub mod Format
pub mod Geometry
pub mod Layout
pub mod Dots
pub mod Rows
pub mod Internal
