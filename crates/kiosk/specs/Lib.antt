-- What the contracts of the functions for C cite, and what the law of their parts says.
pub mod Places
pub mod Handed
