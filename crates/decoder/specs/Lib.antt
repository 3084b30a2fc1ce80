pub mod Body
pub mod Image
pub mod Frames
