pub mod Spelling
pub mod Line
