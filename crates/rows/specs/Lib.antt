pub mod Scan
pub mod Section
pub mod Range
pub mod Packing
pub mod Table
pub mod Order
pub mod Matching
