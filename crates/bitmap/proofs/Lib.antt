-- The laws of the marks, made and read, and of the chooser's block read off them.
pub mod Chosen
pub mod MarksMade
pub mod MarksRead
