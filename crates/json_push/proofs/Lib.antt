pub mod LabelLemmas
pub mod PushLemmas
pub mod SampleAnswers
pub mod SeriesAnswers
pub mod AnswerLemmas
