pub mod AnswerLemmas
