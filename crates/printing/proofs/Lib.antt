pub mod Squares
pub mod Refusing
pub mod Numbered
pub mod Columns
pub mod Pictures
pub mod Promises
mod Samples
pub mod Facts
