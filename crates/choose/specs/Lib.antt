pub mod Ranged
pub mod Below
pub mod Bits
