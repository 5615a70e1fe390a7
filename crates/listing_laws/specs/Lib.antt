pub mod Fixed
pub mod Accepted
pub mod Refused
pub mod Told
