-- The laws of the disk.
pub mod Accepting
pub mod Crashing
pub mod Decided
pub mod Demand2
pub mod Forms
pub mod Havoc
pub mod Kept
pub mod Moves
pub mod Numbers
pub mod Outstanding
pub mod Reading
pub mod RecordArray
pub mod RecordArrays
pub mod Rules
pub mod Unwritten
