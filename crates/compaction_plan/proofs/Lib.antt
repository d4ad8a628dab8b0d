pub mod FewestLemmas
pub mod RunLemmas
pub mod JobLemmas
pub mod EndLemmas
