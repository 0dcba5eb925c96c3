-- What several functions' proofs need.
pub mod Asked
