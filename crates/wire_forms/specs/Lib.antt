pub mod Digits
pub mod Gzip
