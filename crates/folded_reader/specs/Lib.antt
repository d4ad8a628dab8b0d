pub mod Faults
pub mod Lines
pub mod Folded
pub mod Written
pub mod Laws
