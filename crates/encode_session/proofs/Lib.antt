-- The laws that several proofs cite, and the theorems on lists of calls.
pub mod OutcomeCases
pub mod OpenCorrect
pub mod FeedCorrect
pub mod CloseCorrect
pub mod Lists
pub mod ModelReached
pub mod BytesJoined
pub mod Theorems
pub mod Examples
