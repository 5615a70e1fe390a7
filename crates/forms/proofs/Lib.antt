pub mod Laws
pub mod Names
pub mod Operands
pub mod Place
