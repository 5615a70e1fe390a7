pub mod Run
pub mod Host
pub mod RunEnds
