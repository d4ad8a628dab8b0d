pub mod ParameterLemmas
pub mod ScanLemmas
pub mod SplitNameLemmas
