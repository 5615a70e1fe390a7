pub mod Cycled
