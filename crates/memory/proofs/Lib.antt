pub mod Waits
pub mod Next
pub mod Loop
pub mod Hosts
