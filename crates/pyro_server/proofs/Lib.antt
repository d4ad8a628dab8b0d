pub mod Serving
pub mod Sessions
pub mod Growing
pub mod Histories
pub mod ServingAt
pub mod ServedRows
pub mod Input
