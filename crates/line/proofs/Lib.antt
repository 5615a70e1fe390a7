pub mod EachOnce
pub mod Laws
pub mod One
pub mod Steps
pub mod Worked
pub mod Written
