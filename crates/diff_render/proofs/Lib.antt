mod WorkedRows
pub mod OrderLemmas
pub mod NodeLemmas
pub mod HalfLemmas
pub mod BranchLemmas
pub mod JoinLemmas
pub mod EndLemmas
pub mod EqualLemmas
pub mod SideLemmas
