-- The laws of the definitions in specs/.
pub mod Bits
pub mod Chains
pub mod Flagged
pub mod Lists
pub mod Lookup
pub mod Maps
pub mod PlainCall
pub mod QueueForm
pub mod Refusals
pub mod Scan
pub mod Shifted
pub mod Tests
