pub mod Runs
pub mod Decks
pub mod Example
