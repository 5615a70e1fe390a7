pub mod Fate
pub mod After
pub mod Starred
