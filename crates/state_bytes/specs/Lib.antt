pub mod Bytes
pub mod Range
pub mod Order
