pub mod PaddingOred
pub mod RowsClear
pub mod RowsWalked
pub mod HeaderTold
pub mod BodySniffed
pub mod LengthSniffed
pub mod Examples
pub mod ShortHeaders
