pub mod Makes
pub mod Lists
