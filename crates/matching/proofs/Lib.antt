pub mod OneTurn
pub mod Partners
