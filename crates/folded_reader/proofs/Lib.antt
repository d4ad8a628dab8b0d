pub mod AnswerLemmas
pub mod FrameLemmas
pub mod InternerLemmas
pub mod LineLemmas
pub mod ReaderLemmas
pub mod SumLemmas
pub mod WriterLemmas
pub mod WrittenLemmas
