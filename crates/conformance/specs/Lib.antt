pub mod Table
pub mod Check
pub mod ReadBack
pub mod Lists
pub mod Calls
