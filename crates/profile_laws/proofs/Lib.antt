pub mod Rules
pub mod Told
pub mod Never
