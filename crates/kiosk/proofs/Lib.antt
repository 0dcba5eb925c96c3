-- The laws of what C is told.
pub mod Handed
pub mod Zeros
