pub mod Runs
pub mod Samples
pub mod Decks
pub mod Hosts
pub mod Trace
pub mod Example
