pub mod Bytes
pub mod ContentsText
pub mod Cut
pub mod Numbers
pub mod Parsed
pub mod Reading
