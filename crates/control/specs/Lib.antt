pub mod Bus
pub mod Latches
pub mod Next
pub mod Parts
