pub mod File
pub mod FlagByte
pub mod Range
pub mod Registers
pub mod Pairs
pub mod Order
pub mod Marking
