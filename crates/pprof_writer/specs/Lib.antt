pub mod Fields
pub mod Tables
pub mod Written
pub mod Messages
pub mod Laws
pub mod Once
