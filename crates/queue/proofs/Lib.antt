-- The laws of the queue.
pub mod Decided
pub mod Laws
pub mod Mapped
pub mod Scans
