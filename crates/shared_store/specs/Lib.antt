-- a store with its spine, and what is read of it along a pass
pub mod Holds
pub mod Cursors
pub mod Readings
pub mod Settled
pub mod Flushes
