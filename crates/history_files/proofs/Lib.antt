pub mod HeldLemmas
pub mod StandLemmas
pub mod KeepLemmas
pub mod RestLemmas
pub mod SpareLemmas
pub mod IndexLemmas
pub mod OpenLemmas
pub mod ObjectLemmas
