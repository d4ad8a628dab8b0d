pub mod BodyLemmas
pub mod IngestLemmas
pub mod FormAnswers
pub mod AnswerLemmas
