pub mod Cycle
pub mod Marks
pub mod Nets
pub mod Numbers
