pub mod Series
pub mod Rows
