pub mod History
pub mod Attempts
pub mod Decks
pub mod Example
