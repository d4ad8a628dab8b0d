pub mod Bodies
pub mod Entries
pub mod Laws
pub mod Taken
