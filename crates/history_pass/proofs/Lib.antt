pub mod MarkLemmas
pub mod SeatLemmas
pub mod StepLemmas
pub mod MeetingLemmas
pub mod WorldLemmas
