pub mod AnswerLemmas
pub mod FailureLemmas
pub mod LabelLemmas
pub mod RenderingLemmas
pub mod ReplyLemmas
pub mod StatusLemmas
