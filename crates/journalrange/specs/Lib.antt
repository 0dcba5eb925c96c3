-- What the contracts of the journal calls cite, and what their theorem says.
pub mod Parts
pub mod Walk
