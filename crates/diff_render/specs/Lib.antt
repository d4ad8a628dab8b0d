pub mod Doubles
pub mod Order
pub mod Joining
pub mod Laws
