-- The laws that several proofs cite.
pub mod SumsCorrect
pub mod PlaneRows
pub mod RowsLoop
pub mod RowHanded
pub mod RowsGoing
pub mod OnesLoop
pub mod PairsLoop
pub mod PlaneServed
pub mod TableRule
pub mod DotStep
pub mod RowGrows
pub mod RowBytes
pub mod RowEnds
pub mod LevelDots
pub mod LevelTold
