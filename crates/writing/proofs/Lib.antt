pub mod Puts
pub mod Fields
pub mod Tells
pub mod Samples
