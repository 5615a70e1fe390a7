pub mod Forms
pub mod Named
pub mod Paper
