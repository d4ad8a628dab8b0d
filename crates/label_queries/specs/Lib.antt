pub mod Ordered
pub mod Labels
pub mod Gathered
pub mod Texts
