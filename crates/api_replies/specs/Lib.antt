pub mod FaultBodies
pub mod Refusals
pub mod Replies
pub mod ReplyLaws
-- What follows serves proofs alone: no clause of a public call names it.
pub mod Rendering
pub mod Listing
