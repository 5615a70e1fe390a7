pub mod Assembled
pub mod Listed
pub mod Laid
