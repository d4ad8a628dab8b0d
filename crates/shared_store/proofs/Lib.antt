pub mod CursorLemmas
pub mod TieLemmas
pub mod ReadingLemmas
pub mod SettleLemmas
pub mod FlushLemmas
