-- What the kernels promise.
pub mod Internal
