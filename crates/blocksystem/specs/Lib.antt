-- What the joined calls' contracts cite, the run that demand 3 speaks of and all that is promised of it, and upstream's BlockSystem.
pub mod Allowed
pub mod Audit
pub mod Board
pub mod Choosing
pub mod Fairness
pub mod Format
pub mod Frozen
pub mod Joined
pub mod Names
pub mod Operations
pub mod Promise
pub mod Run
pub mod Screen
pub mod Start
pub mod TwoNames
pub mod Upstream
pub mod Waits
