-- What the disk's contracts cite, and upstream's BlockDisk, which the theorem of demand 2 compares with it.
pub mod Crash
pub mod Form
pub mod Narrowings
pub mod Ops
pub mod Records
pub mod Unwritten
pub mod Upstream
