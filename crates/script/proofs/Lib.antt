-- The laws of the words of step 20.
pub mod Transactions
