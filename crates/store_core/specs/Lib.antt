-- a store as contracts see it, and what becomes of it
pub mod Store
pub mod Changes
pub mod Settling
pub mod Reading
pub mod Opening
