-- What dithering a plane at once promises.
pub mod Internal
