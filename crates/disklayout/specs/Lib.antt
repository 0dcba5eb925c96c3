-- What the contracts of the layout calls cite.
pub mod Blocks
pub mod Calls
pub mod Device
pub mod Journal
pub mod Kinds
pub mod Layout
