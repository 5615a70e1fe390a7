pub mod Codes
pub mod Doubled
pub mod Theorem
pub mod Example
