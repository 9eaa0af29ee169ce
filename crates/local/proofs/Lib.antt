pub mod Sums
pub mod Sparing
pub mod Flat
pub mod Bounding
