pub mod Marks
pub mod Line
pub mod Kinds
pub mod Coded
pub mod Written
