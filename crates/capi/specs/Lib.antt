pub mod Returned
pub mod Lent
pub mod Asked
pub mod Calls
