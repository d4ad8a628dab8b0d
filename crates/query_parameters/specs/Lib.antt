pub mod Parameters
pub mod Times
pub mod SeriesNames
pub mod SeriesScan
pub mod ReadNames
