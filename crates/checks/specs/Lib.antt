pub mod Checks
pub mod Asked
