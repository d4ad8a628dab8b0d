-- where tenants stand, and what becomes of pushes
pub mod Rows
pub mod Limits
pub mod Books
pub mod Verdicts
pub mod Keeping
pub mod Laws
