pub mod Counted
pub mod Headed
pub mod Planed
pub mod Shaped
pub mod Fitted
pub mod After
pub mod Rest
