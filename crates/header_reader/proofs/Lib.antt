pub mod Machine
pub mod RunSteps
pub mod StepReachable
pub mod EndRefusal
pub mod ReaderPromises
