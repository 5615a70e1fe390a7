mod Steps
pub mod Laws
pub mod Order
