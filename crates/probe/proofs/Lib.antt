pub mod Promises
pub mod Facts
pub mod Samples
