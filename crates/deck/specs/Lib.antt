pub mod Sections
pub mod Elements
pub mod Ranges
pub mod Quads
pub mod Layouts
pub mod Parts
pub mod Order
pub mod Slip
