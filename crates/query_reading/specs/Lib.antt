-- what queries find in a history that is read along a pass
pub mod Reading
