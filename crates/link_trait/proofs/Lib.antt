pub mod GoesLemmas
mod LinkLemmas
