pub mod Answers
pub mod Laws
pub mod Lines
pub mod One
