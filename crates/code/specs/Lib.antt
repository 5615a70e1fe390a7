pub mod CodeRows
pub mod Entries
pub mod Word
