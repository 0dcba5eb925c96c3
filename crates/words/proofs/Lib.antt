-- The laws of numbers and contents as text, of cutting, and of beginnings.
pub mod ContentsText
pub mod Cuts
pub mod Numbers
pub mod Starts
