pub mod RowLemmas
pub mod HistoryLemmas
pub mod BookLemmas
pub mod VerdictLemmas
pub mod KeptLemmas
