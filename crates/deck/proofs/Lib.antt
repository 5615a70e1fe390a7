mod Every
pub mod Laws
pub mod Layouts
pub mod One
pub mod Order
pub mod Slip
