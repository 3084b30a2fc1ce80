pub mod Made
pub mod Lists
