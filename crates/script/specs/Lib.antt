pub mod Calls
pub mod Offers
pub mod Operations
pub mod Requests
pub mod Transactions
