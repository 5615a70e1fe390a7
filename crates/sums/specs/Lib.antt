pub mod Sums
pub mod Host
