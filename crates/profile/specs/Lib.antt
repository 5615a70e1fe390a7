pub mod Profile
pub mod Told
