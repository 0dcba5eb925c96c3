-- Definitions that the store's contracts and theorems are made of.
pub mod Bits
pub mod Lists
pub mod Maps
pub mod Queue
pub mod Refusals
pub mod Scan
