pub mod Varint
pub mod Field
pub mod Message
pub mod Reading
pub mod Next
pub mod Writing
