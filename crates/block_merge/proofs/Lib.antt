pub mod RoomLemmas
pub mod MergeLemmas
pub mod LengthLemmas
