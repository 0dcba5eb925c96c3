-- The laws of a range's parts, for any good row, and the theorem of the two together.
pub mod Blocks
pub mod Cases
pub mod Parts
pub mod Told
pub mod Walk
