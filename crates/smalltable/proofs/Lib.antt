-- The laws and theorems of small tables.
pub mod Asked
pub mod Complete
pub mod Joined
pub mod Lists
pub mod Loading
pub mod Numbering
pub mod Numbers
pub mod Tables
pub mod Witness
