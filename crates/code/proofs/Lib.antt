pub mod Digits
pub mod Shape
pub mod Tops
pub mod Words
pub mod Laws
