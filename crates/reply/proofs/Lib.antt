pub mod Kept
pub mod Telling
mod Drawing
pub mod Promises
