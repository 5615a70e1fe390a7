pub mod Base
pub mod Others
pub mod Cases
