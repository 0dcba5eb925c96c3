-- The laws of the records.
pub mod Derived
pub mod Equal
pub mod Forms
pub mod Graphs
pub mod HighLow
pub mod Maps
pub mod Older
pub mod Rows
