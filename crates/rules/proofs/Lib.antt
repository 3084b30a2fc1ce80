-- The laws that several proofs cite.
pub mod Differences
pub mod DigitsAppended
pub mod ListPiece
pub mod UptoList
pub mod EntryTold
pub mod DotCauses
pub mod ThresholdBytes
pub mod Words
pub mod WordCompared
pub mod WordGathered
pub mod RuleAsked
pub mod UptoOverlaid
pub mod PlaneBytes
pub mod PlaneWritten
pub mod WordPlain
pub mod PlainFront
pub mod PlainRowWritten
