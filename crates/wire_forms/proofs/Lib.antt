pub mod DigitLemmas
pub mod GzipLemmas
pub mod SplitLemmas
