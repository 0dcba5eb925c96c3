-- What the contracts of `numbering` cite, and what the theorems speak of.
pub mod Loading
pub mod Numbering
pub mod Numbers
pub mod Order
pub mod SmallTable
pub mod Tables
