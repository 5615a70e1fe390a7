pub mod Steps
pub mod Laws
pub mod Order
pub mod Matching
pub mod Packing
