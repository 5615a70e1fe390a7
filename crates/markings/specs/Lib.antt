pub mod Markings
pub mod Cases
