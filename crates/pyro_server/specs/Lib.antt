pub mod Statuses
pub mod Settled
pub mod Given
pub mod Served
pub mod ServedAt
pub mod Words
pub mod ServedLaws
-- What follows serves proofs alone: no clause of a public call names it.
pub mod Steps
