-- What the kernels of the ordered rule promise.
pub mod Internal
