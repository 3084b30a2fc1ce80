-- What the rules are, and what their kernels promise.
pub mod Bits
pub mod Packed
pub mod Diffusion
pub mod Ordered
pub mod Rule
pub mod Internal
