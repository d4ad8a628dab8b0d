pub mod LabelLemmas
pub mod MeaningLemmas
