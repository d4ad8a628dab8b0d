pub mod Facts
pub mod Forms
pub mod Refusals
pub mod Renders
pub mod LabelAsks
pub mod Meanings
-- What follows serves proofs alone: no clause of a public call names it.
pub mod ReadParts
