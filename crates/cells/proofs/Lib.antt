pub mod Forms
pub mod Parts
pub mod Widening
pub mod Making
