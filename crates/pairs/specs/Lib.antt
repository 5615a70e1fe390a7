pub mod Before
pub mod Crosswise
