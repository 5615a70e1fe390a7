pub mod Loop
pub mod Places
pub mod Runs
pub mod Hosts
pub mod One
