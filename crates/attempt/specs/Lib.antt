pub mod Outcome
pub mod Effect
pub mod Attempt
pub mod Lent
