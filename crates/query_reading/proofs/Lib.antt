pub mod GatherLemmas
pub mod FaultLemmas
