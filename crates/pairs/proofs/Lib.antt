pub mod Even
pub mod Crosswise
