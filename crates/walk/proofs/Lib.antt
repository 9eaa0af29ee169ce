pub mod Cells
pub mod Leaving
pub mod Whole
pub mod Promises
pub mod Facts
pub mod Samples
